pub mod Answers
pub mod CompareTheorems
pub mod PrefixTheorems
pub mod Sorting
pub mod Results
