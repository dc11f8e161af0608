-- A function's config space: its power-on image, its state, and what accesses and resets do to it.
pub mod Field
pub mod PowerOn
pub mod ConfigByte
pub mod State
pub mod Space
pub mod Admitted
pub mod Start
pub mod Command
pub mod Read
pub mod Write
pub mod Reset
pub mod Same
