pub mod AsciiTexts
pub mod FieldLemmas
pub mod Floats
pub mod NameLemmas
