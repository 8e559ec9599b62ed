pub mod RehearsalLaws
pub mod SampleLaws
