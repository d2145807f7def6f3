pub mod Restores
pub mod Rewrites
