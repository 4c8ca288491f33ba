pub mod Choosing
pub mod Somewhere
