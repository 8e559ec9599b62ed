pub mod Formats
pub mod Stored
pub mod Written
pub mod Fits
pub mod Meaning
pub mod Entries
