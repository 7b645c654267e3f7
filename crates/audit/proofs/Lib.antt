pub mod Least
pub mod Results
pub mod Totals
pub mod Walks
