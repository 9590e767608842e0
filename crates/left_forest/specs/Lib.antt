pub mod Links
pub mod Answers
pub mod Theorems
pub mod RankTheorems
pub mod RankExamples
pub mod DefaultTheorems
pub mod DefaultExamples
