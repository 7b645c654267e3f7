pub mod Tracks
pub mod Lent
pub mod Advances
