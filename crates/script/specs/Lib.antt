pub mod Reading
pub mod Scripts
pub mod Transcripts
