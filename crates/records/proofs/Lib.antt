pub mod Files
pub mod KindNumbers
pub mod Judging
pub mod Asked
pub mod Records
pub mod Near
pub mod Going
pub mod Law
