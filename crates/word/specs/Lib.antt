-- Bytes and the numbers that they spell.
pub mod Table
pub mod Search
pub mod Interval
pub mod Bit
pub mod Width
pub mod Number
pub mod Store
