pub mod Tabs
pub mod Stores
pub mod Over
pub mod Bytes
pub mod Theorems
pub mod Passes
pub mod Slices
