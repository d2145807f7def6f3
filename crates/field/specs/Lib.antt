pub mod Below
pub mod Binary
pub mod Computed
pub mod Marks
pub mod Numbers
pub mod Residues
pub mod Ring
pub mod Symbols
