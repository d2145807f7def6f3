pub mod Binary
pub mod Inverses
pub mod Residues
pub mod Solver
pub mod Values
