pub mod Crossings
pub mod Verdicts
