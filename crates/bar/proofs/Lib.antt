-- The laws that the crates above cite.
pub mod Ranges
pub mod Sizes
pub mod Powers
pub mod Registers
pub mod States
