pub mod Range
pub mod Lists
