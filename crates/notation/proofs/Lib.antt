pub mod Numbering
pub mod Signs
