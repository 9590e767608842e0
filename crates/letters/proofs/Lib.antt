pub mod Answers
pub mod Tables
