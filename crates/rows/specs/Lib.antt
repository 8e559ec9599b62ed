pub mod View
pub mod Search
pub mod Leaving
