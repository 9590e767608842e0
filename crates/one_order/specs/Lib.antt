pub mod Pairs
pub mod Examples
