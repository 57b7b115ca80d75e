pub mod ChainLemmas
pub mod ExpiryLemmas
pub mod FindingLemmas
pub mod ClearingLemmas
pub mod ChoiceLemmas
pub mod PageLemmas
pub mod IterationLemmas
