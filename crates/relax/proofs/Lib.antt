pub mod Logged
pub mod Relaxing
