-- The laws of the text.
pub mod Writes
pub mod Rooms
pub mod Numerals
pub mod Examples
pub mod Fitting
