pub mod Calls
pub mod States
pub mod Vaults
