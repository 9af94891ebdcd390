pub mod Calls
pub mod Drawn
pub mod Endings
pub mod Faults
pub mod Kept
pub mod Outputs
pub mod Quotas
pub mod Steps
