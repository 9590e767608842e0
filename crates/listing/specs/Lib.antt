pub mod Listing
pub mod Theorems
pub mod Examples
pub mod Limits
pub mod Laws
