pub mod Record
pub mod Extract
pub mod Refusals
pub mod Tape
pub mod Extraction
pub mod Passes
