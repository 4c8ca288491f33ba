pub mod Limits
pub mod Kinds
pub mod Labels
pub mod Entities
pub mod Naming
pub mod Refusals
pub mod Fitting
