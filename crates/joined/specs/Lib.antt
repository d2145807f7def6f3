pub mod Joining
pub mod Laws
pub mod Parts
pub mod Sides
pub mod Sound
