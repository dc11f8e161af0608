-- What a line of the console asks.
pub mod Numeral
pub mod Command
pub mod Spelt
pub mod Examples
