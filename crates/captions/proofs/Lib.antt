pub mod Entries
pub mod Heads
pub mod Judged
pub mod Theorems
