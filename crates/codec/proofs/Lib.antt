pub mod ByteLaws
pub mod TableLaws
pub mod FieldLaws
