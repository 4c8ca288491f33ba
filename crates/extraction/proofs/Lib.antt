pub mod Filling
pub mod Signing
pub mod Visiting
pub mod Rounding
pub mod Climbing
pub mod Counting
pub mod Accepting
pub mod Judging
