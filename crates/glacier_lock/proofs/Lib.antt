pub mod DeniedLemmas
pub mod LockLemmas
