pub mod Code
pub mod Report
pub mod Refusals
