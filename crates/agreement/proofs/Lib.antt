pub mod RankedAgreement
pub mod PackedParts
