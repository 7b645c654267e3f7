pub mod Cutting
pub mod Cascading
pub mod CutOut
