pub mod Entries
pub mod Parts
pub mod Asking
pub mod Refusals
