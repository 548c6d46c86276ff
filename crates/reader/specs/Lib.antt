pub mod Judge
pub mod Take
pub mod Refusals
pub mod Passes
pub mod Left
pub mod Former
pub mod Before
