pub mod Agreement
pub mod Determined
pub mod Laws
pub mod Runs
