-- The worked cases of document 01.
pub mod Settings
pub mod Cases
