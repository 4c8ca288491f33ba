pub mod Bodies
pub mod Steps
pub mod Laying
pub mod Building
pub mod Parsing
pub mod Numbers
