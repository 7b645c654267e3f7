pub mod Turning
pub mod TurnDone
