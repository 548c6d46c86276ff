pub mod Laws
pub mod Theorems
pub mod Falls
pub mod Turns
pub mod Tally
