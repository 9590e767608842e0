pub mod Rows
pub mod Place
pub mod Joining
pub mod Join
pub mod Fill
pub mod RunExtent
pub mod RunPass
