-- The proofs of the map reader.
pub mod ByHand
pub mod LineAt
pub mod Counting
pub mod Filling
pub mod Room
pub mod Ways
pub mod Fits
pub mod PaddedNumbers
