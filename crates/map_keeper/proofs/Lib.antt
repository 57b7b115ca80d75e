pub mod RestoreLemmas
pub mod SaveLemmas
pub mod WriteLemmas
pub mod PartLemmas
pub mod KeptLemmas
pub mod HistoryLemmas
