pub mod Refusals
pub mod Notation
pub mod Lists
pub mod Totals
pub mod Marks
pub mod Reports
pub mod Verdicts
