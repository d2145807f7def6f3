pub mod Columns
pub mod Lawful
pub mod Reading
pub mod Told
pub mod Worked
