pub mod Depends
pub mod Shrinks
pub mod Small
pub mod Below
pub mod Defaulted
pub mod Sound
pub mod Keeps
