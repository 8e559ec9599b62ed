pub mod Laws
pub mod ReplyLaws
pub mod RequestLaws
pub mod Unchanged
