-- The answers of the bus as plain structs.
pub mod Result
pub mod Step
pub mod Inside
