pub mod NameRows
pub mod RecordRows
pub mod Positions
pub mod Accepted
pub mod CheckOrder
