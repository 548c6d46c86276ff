pub mod Reading
pub mod Finish
pub mod Check
pub mod Promise
