-- The text that the placement program prints.
pub mod Numeral
pub mod Part
pub mod Line
pub mod Text
pub mod Examples
pub mod Fits
