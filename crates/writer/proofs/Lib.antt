pub mod Places
pub mod Puts
pub mod Whole
pub mod Laws
pub mod Theorems
