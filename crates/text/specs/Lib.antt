pub mod Text
pub mod TextContracts
