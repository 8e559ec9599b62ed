pub mod Changing
pub mod Cutting
