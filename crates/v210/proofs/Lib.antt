pub mod Digits
pub mod Places
pub mod Refusals
pub mod RoundTrip
pub mod Theorems
