pub mod Run
pub mod Follow
pub mod Totals
pub mod Refusals
