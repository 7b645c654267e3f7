pub mod Parse
pub mod LineAt
pub mod Print
pub mod ByHand
pub mod Theorems
