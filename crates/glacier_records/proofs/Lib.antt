pub mod ChoiceLemmas
pub mod CodecLemmas
pub mod EventLaws
mod Examples
pub mod FieldLemmas
pub mod KeptLaws
pub mod KeptLengths
mod KindExamples
pub mod KindLemmas
pub mod LongLemmas
pub mod ManyLemmas
pub mod OptionLemmas
pub mod RecordLaws
pub mod WrittenLemmas
