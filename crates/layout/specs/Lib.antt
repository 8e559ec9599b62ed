pub mod Places
pub mod Stored
pub mod Written
pub mod Fits
pub mod Meaning
pub mod Stations
