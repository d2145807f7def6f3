pub mod Matrices
pub mod Missing
pub mod Steps
