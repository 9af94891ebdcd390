pub mod Frames
pub mod Appending
pub mod Breaks
pub mod Listed
pub mod Steps
pub mod Sides
pub mod Calls
