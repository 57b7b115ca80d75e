pub mod AccessLemmas
pub mod WindowLemmas
pub mod EntryLemmas
pub mod PlaceLemmas
pub mod BindingLemmas
pub mod EffectLemmas
pub mod WayLemmas
pub mod AnswerLemmas
