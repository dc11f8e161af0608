-- The laws of commands.
pub mod Numerals
pub mod Words
pub mod Spelling
pub mod Examples
pub mod Commands
pub mod Arguments
