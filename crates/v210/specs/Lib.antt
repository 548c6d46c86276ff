pub mod Row
pub mod Refusals
