pub mod Returned
pub mod NumberTellsApart
