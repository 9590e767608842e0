pub mod CommonPrefix
pub mod CommonPrefixLaws
pub mod Packed
pub mod PackedLaws
