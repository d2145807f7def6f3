pub mod Columns
pub mod Cuts
mod Lawful
pub mod Meanings
pub mod Places
pub mod Rows
pub mod Turns
