-- What is printed, piece by piece.
pub mod Fields
pub mod TableRows
pub mod FeedShown
pub mod MapShown
pub mod PrintedTable
pub mod PrintedCount
pub mod PrintedCeiling
