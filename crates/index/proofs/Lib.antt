pub mod Numbers
pub mod Entries
pub mod Questions
pub mod Answers
pub mod Conditions
pub mod Theorems
pub mod Example
