pub mod Write
pub mod Refusals
pub mod Fit
pub mod Passes
