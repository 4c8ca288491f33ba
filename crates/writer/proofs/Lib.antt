pub mod Copied
pub mod Laid
