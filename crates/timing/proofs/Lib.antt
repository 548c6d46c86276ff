pub mod Every
pub mod Same
pub mod Table
pub mod Laws
pub mod Theorems
