pub mod ScriptLaws
pub mod RoundTrip
