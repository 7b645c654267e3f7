pub mod Written
pub mod Places
pub mod Laws
pub mod Taken
pub mod Left
pub mod Made
