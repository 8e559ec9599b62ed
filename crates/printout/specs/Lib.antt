pub mod Printed
pub mod Sample
