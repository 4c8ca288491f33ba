pub mod Parts
pub mod Order
pub mod Writing
pub mod Fitting
