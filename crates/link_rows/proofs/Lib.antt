pub mod Bits
pub mod LinkLaws
