-- The laws that the crates above cite.
pub mod Slots
pub mod Offsets
pub mod Accesses
