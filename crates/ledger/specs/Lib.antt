pub mod Calls
pub mod Fitting
pub mod Histories
pub mod Laws
pub mod Ledgers
