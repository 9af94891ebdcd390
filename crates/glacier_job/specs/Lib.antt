pub mod Beginning
pub mod Finding
pub mod Naming
pub mod Pass
pub mod Work
