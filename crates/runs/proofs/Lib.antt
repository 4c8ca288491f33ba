pub mod Numbering
pub mod Telling
pub mod Taken
pub mod Told
pub mod Lists
pub mod Kept
pub mod Promising
