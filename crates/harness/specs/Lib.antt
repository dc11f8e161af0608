-- What the comparison asks and is told, as numbers.
pub mod Scalar
pub mod Effects
pub mod Function
pub mod Contents
pub mod Lists
pub mod Places
