pub mod Gatherings
pub mod States
