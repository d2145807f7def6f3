pub mod Held
pub mod Writes
