pub mod ListingLemmas
pub mod OriginLemmas
pub mod ReasonLemmas
