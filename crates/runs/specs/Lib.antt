pub mod Steps
pub mod History
pub mod Answers
pub mod Fitting
pub mod Promise
pub mod Resting
