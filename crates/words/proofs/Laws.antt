pub mod Runs
pub mod RunTests
pub mod RunSearch
pub mod RunRenaming
pub mod RunExistence
pub mod RunMarks
pub mod RunCount
pub mod EachRunOnce
