pub mod Reasons
pub mod Answers
pub mod Limits
pub mod Content
pub mod AfterCall
pub mod AfterLaws
pub mod ContentLaws
