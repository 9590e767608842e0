pub mod Laws
pub mod ExactlyOne
pub mod Existence
pub mod RunsTheorem
