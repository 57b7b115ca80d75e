pub mod AnsweringLemmas
pub mod ConversationLemmas
pub mod SessionLemmas
pub mod SendingLemmas
pub mod RequestLemmas
pub mod UnsentLemmas
pub mod OwedLemmas
pub mod PartLemmas
