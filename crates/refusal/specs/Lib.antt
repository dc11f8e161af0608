-- The refusals of document 01.
pub mod Number
pub mod Refusal
