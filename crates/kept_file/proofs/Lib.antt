mod QueryLemmas
pub mod ReadLemmas
pub mod RowLemmas
pub mod TextLemmas
pub mod StoredLemmas
pub mod AnswerLemmas
pub mod DeleteLemmas
pub mod OtherLemmas
pub mod AppendLemmas
pub mod ListedLemmas
pub mod TablesLemmas
pub mod ChangeLemmas
pub mod LogLemmas
