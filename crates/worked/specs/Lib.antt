pub mod Example
pub mod Computed
pub mod Table
