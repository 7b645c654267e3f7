-- What the program prints.
pub mod Shown
pub mod Theorems
