pub mod Limits
pub mod Decimal
pub mod Bed
pub mod Refusal
pub mod Laws
pub mod Text
