pub mod Reacting
pub mod Replying
