pub mod Chains
pub mod Laid
pub mod Accepting
