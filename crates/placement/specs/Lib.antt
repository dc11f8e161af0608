-- Where BARs are placed.
pub mod Place
pub mod Skip
pub mod Keys
pub mod Order
pub mod Passes
pub mod Answer
pub mod Rule
pub mod Outcome
pub mod Examples
