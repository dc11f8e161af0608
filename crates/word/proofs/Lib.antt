-- The laws that the crates above cite.
pub mod Tests
pub mod Intervals
pub mod Tables
pub mod Searches
pub mod Mapped
pub mod Widths
pub mod Blends
pub mod Stores
pub mod Puts
pub mod Numbers
pub mod ReadBytes
pub mod ReadSums
pub mod Merges
pub mod Listed
