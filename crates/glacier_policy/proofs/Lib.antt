pub mod DenialLemmas
mod Examples
pub mod FaultLemmas
pub mod FitsLemmas
pub mod PatternLemmas
pub mod ReadLemmas
