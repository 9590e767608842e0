pub mod Reading
pub mod Laws
pub mod RowTheorems
pub mod CaseTheorems
