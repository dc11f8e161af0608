-- The numbers are those of document 01's table: each is its place in the list. What an answer says of the test that decided it.
pub mod Order
pub mod Choices
