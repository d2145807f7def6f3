pub mod Copies
pub mod Triples
