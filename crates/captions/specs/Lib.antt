pub mod Entry
pub mod Refusals
