pub mod Store
pub mod Calls
pub mod StoreLaws
pub mod Theorems
pub mod Series
pub mod SeriesLaws
pub mod Isolation
pub mod Examples
