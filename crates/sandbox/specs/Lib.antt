pub mod Made
pub mod Telling
