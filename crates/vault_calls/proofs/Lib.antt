pub mod Clearing
pub mod Verdicts
