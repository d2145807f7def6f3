pub mod Amends
pub mod Moves
pub mod Singles
