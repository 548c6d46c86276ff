pub mod Nexts
pub mod Bodies
pub mod Follows
pub mod Reached
pub mod Theorems
pub mod Exact
