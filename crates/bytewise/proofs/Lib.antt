mod Keys
mod Parts
pub mod Theorems
pub mod Judged
