-- The definitions of the text layer.
pub mod Numbers
pub mod Fields
pub mod Lines
pub mod Decimal
pub mod Output
pub mod Laws
pub mod Padding
pub mod ByHand
