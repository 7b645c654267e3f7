pub mod Entries
pub mod Theorems
