mod CourseLemmas
pub mod HeldLemmas
pub mod ListLemmas
