pub mod Calls
pub mod Core
pub mod Theorems
pub mod RankTheorems
pub mod RankExamples
