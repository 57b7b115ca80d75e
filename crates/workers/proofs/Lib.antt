pub mod Working
pub mod ApartLemmas
