pub mod CommandLaws
pub mod LineLaws
pub mod NumberLaws
pub mod ScriptLaws
pub mod Turns
pub mod Words
