pub mod DrawnLemmas
pub mod OneBlob
