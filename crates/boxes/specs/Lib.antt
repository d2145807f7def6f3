pub mod Boxes
pub mod Out
pub mod Pairs
