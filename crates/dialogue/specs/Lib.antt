-- The console's dialogue: what is answered to a line.
pub mod Effect
pub mod Access
pub mod Report
pub mod Dump
pub mod Answer
