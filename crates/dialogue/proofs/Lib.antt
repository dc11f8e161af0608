-- The laws of the answers.
pub mod Shown
