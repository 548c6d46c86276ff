pub mod Numbers
pub mod Answer
pub mod Table
pub mod Reasons
