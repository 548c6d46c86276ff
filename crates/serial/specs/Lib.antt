pub mod Bits
pub mod Serial
pub mod Calls
pub mod Refusals
pub mod Words
pub mod Held
