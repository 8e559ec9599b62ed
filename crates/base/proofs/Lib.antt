pub mod Booleans
pub mod Lists
pub mod Loops
pub mod Ranges
pub mod Results
