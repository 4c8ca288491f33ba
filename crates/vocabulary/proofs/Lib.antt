pub mod Texts
pub mod Turns
pub mod Kept
pub mod Judging
