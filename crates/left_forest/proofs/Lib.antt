pub mod SuffixTable
pub mod Linking
pub mod Rooting
pub mod Growing
