pub mod Packet
pub mod Due
pub mod Fault
pub mod Refusals
pub mod Passes
