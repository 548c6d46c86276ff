pub mod Offsets
pub mod Fault
pub mod Samples
pub mod Fit
pub mod Lengths
pub mod Refusals
pub mod Parts
pub mod Damage
