pub mod Fitting
pub mod Moments
pub mod Putting
pub mod Restoring
pub mod Snapshot
pub mod Sound
