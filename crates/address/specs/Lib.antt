-- Places in config space, how many there can be, and the check of an access.
pub mod Layout
pub mod Limits
pub mod Kinds
pub mod Check
