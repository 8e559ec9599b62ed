pub mod Sums
pub mod Potential
pub mod Spending
pub mod Turning
pub mod Ending
