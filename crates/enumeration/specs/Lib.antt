-- Enumeration, histories, and demand 3.
pub mod Enumerate
pub mod Turn
pub mod History
pub mod Truth
pub mod Premise
pub mod Moved
