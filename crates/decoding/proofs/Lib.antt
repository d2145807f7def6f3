pub mod Filled
pub mod Fills
pub mod Gaps
pub mod Parts
pub mod Solutions
pub mod Turns
