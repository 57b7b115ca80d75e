mod TableLemmas
mod MarkLemmas
mod PackedLemmas
mod KeyLemmas
mod CallLemmas
mod AllLemmas
mod HandLemmas
mod FilterLemmas
pub mod Covering
