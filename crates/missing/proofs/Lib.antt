pub mod Counts
pub mod Presence
