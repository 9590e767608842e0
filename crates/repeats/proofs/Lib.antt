-- A lemma on what is read step by step.
pub mod Bytes
