pub mod Returned
pub mod Ceilings
