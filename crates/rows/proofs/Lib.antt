pub mod Bounds
pub mod RowLaws
pub mod SearchLaws
mod LeavingLaws
