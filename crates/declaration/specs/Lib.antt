-- The declaration file: its fields, what they declare, and its refusals.
pub mod Check
pub mod Tag
pub mod Frame
pub mod Said
pub mod Blank
pub mod Standing
pub mod Row
pub mod Take
pub mod Finished
pub mod Reading
pub mod Whole
pub mod Answer
pub mod Exactly
pub mod Good
pub mod Reader
