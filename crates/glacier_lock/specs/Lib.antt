pub mod Denied
pub mod Locks
