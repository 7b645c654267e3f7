pub mod LinkedList
pub mod Released
pub mod Stored
pub mod Removed
pub mod Consolidating
pub mod Writing
pub mod Extract
