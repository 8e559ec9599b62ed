pub mod Script
pub mod ScriptContracts
pub mod Determined
