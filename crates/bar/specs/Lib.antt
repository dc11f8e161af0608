-- Memory BARs: what is declared of one, its register, its state, and the ranges that BARs take.
pub mod Range
pub mod Bar
pub mod Register
pub mod State
pub mod Bounded
