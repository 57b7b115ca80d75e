pub mod PointerLemmas
pub mod ValueLemmas
pub mod MarkLemmas
pub mod FrameLemmas
pub mod MarkingLemmas
pub mod LoadLemmas
pub mod GroupLemmas
