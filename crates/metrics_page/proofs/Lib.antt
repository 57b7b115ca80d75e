pub mod PageLemmas
pub mod RequestLemmas
