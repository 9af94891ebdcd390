pub mod Courses
pub mod Held
pub mod Paces
pub mod Turns
