pub mod Frames
pub mod Layouts
