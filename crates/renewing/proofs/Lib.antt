pub mod Numbers
pub mod Restored
