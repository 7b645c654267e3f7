pub mod Runs
pub mod Promises
pub mod Histories
pub mod Theorems
pub mod Unraised
