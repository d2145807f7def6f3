pub mod Loads
pub mod Searches
