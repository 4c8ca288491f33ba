pub mod Example
pub mod WorkedCases
