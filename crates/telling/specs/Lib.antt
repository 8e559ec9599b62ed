pub mod Lines
pub mod Tallies
