pub mod Draining
pub mod Following
