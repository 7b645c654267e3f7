pub mod Allowed
pub mod Performed
pub mod Entered
pub mod HeapsJoined
pub mod Moving
