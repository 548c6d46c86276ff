pub mod Parts
pub mod Judged
pub mod Taken
pub mod Theorems
pub mod Former
