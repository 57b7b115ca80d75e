pub mod WordLemmas
pub mod SumLemmas
pub mod ProductLemmas
pub mod BitLemmas
pub mod ShiftLemmas
pub mod MoveLemmas
pub mod ConditionLemmas
