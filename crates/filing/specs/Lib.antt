pub mod Restoring
pub mod Rewriting
