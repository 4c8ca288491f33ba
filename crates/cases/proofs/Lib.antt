pub mod Chains
pub mod Bodies
pub mod Kept
