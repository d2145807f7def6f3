pub mod Held
pub mod Triples
