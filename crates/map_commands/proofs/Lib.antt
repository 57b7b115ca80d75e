pub mod ListLemmas
pub mod HexLemmas
pub mod ShownLemmas
pub mod UnitLineLemmas
pub mod WordLemmas
pub mod ExecutionLemmas
pub mod AdmittedLemmas
