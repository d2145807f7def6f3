pub mod Amendments
pub mod Changes
