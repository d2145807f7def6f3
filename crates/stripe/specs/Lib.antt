pub mod Reasons
pub mod Stripes
