-- The laws that the crates above cite.
pub mod Lists
-- The truth of enumeration.
pub mod Constants
pub mod ListPlaces
pub mod OneSlot
pub mod AllSlots
pub mod CapabilityLists
pub mod TrueReports
pub mod Truths
pub mod Follows
pub mod Histories
pub mod OwnWrites
pub mod Demand
pub mod Premises
pub mod MovedCase
