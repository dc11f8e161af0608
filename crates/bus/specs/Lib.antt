-- The bus: start, dispatch, relocation, lookup, reset.
pub mod Bus
pub mod Start
pub mod Outcome
pub mod Access
pub mod Lookup
pub mod Reset
pub mod Sound
pub mod Held
pub mod Spent
pub mod Acceptable
pub mod Run
