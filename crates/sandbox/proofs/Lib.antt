pub mod MadeLaws
pub mod NarrowLaws
pub mod RunLaws
