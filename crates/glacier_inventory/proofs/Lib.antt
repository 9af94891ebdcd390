pub mod AsciiTexts
mod Examples
pub mod JsonTexts
pub mod NameLemmas
