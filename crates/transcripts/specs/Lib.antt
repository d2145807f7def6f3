pub mod Calls
pub mod Entries
pub mod Lengths
pub mod Lines
pub mod Rounds
pub mod Transcripts
