-- The cases, proved.
pub mod Right
pub mod Beside
