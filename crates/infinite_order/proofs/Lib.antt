pub mod Comparing
pub mod SortingLaws
pub mod Reading
