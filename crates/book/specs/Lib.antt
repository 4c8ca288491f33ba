pub mod Limits
pub mod Refusals
pub mod Contents
pub mod Calls
pub mod Proper
pub mod Fitting
