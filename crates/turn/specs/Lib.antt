pub mod TurnStore
pub mod Theorems
pub mod Steps
