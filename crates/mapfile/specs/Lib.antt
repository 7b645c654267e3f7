-- The definitions of the map reader.
pub mod Lines
pub mod Lent
pub mod Read
pub mod Theorems
pub mod ByHand
