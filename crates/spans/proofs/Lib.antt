pub mod Refused
pub mod SpansCode
pub mod Faultless
pub mod FeedCodes
pub mod Range
