-- The laws that the crates above cite.
pub mod Checks
pub mod Frames
pub mod Saids
pub mod Used
pub mod Made
pub mod Takings
pub mod Adds
pub mod Openings
pub mod Steps
pub mod Ends
pub mod Turns
pub mod Wholes
pub mod Outcomes
pub mod Answered
pub mod Rows
pub mod Everywhere
pub mod Functions
pub mod Inserted
pub mod Devices
pub mod SoFars
pub mod Masked
pub mod Keeping
pub mod Goods
pub mod Readers
pub mod ByteFiles
mod Lent
mod Handed
