pub mod Check
pub mod Theorems
pub mod Examples
