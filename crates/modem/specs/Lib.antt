pub mod QueueRun
pub mod Theorems
