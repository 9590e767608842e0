pub mod Ranking
pub mod Scanning
pub mod Listing
pub mod Tabling
pub mod LyndonScan
