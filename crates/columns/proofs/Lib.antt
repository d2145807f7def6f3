pub mod Mids
pub mod Names
pub mod Runs
pub mod Shares
pub mod Sides
pub mod Slices
