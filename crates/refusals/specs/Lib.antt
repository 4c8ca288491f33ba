pub mod Refusals
pub mod Turns
pub mod Choice
