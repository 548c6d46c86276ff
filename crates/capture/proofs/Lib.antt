pub mod Laws
pub mod Bounds
pub mod Kept
pub mod Theorems
