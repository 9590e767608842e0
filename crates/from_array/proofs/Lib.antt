pub mod Marking
pub mod Values
pub mod Filling
