pub mod ViewLaws
pub mod Bounds
pub mod PacketLaws
pub mod RangeLaws
pub mod Chains
pub mod Ranged
