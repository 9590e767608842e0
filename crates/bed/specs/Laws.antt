pub mod Decimal
pub mod Bed
pub mod Refusal
