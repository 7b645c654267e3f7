pub mod Says
pub mod Empty
pub mod Siblings
pub mod ItemOrder
pub mod Families
