pub mod Piles
pub mod Hex
pub mod Outcomes
pub mod Words
pub mod Lines
pub mod Readings
pub mod Replies
pub mod Scripts
