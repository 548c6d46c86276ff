pub mod Figures
pub mod Due
pub mod Walk
pub mod Tally
pub mod Before
pub mod Judgement
pub mod Refusals
