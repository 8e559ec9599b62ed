pub mod MeaningLaws
pub mod StoredLaws
pub mod NetworkLaws
pub mod ReadBack
