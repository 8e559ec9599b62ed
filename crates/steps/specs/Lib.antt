pub mod Called
pub mod Cutting
pub mod Drained
pub mod Happens
pub mod Parting
pub mod Ran
pub mod Source
