pub mod Range
pub mod Order
pub mod New
