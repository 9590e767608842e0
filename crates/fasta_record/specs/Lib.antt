pub mod Bytes
pub mod Fault
pub mod Name
pub mod Lines
pub mod Record
