pub mod Keeping
pub mod Held
pub mod Proper
pub mod Seeding
pub mod Admitting
pub mod Judging
pub mod FilingJudged
