pub mod Determined
pub mod Lists
pub mod Printing
pub mod Read
pub mod Shelves
pub mod Turns
