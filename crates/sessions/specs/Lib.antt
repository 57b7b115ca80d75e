pub mod Answering
pub mod Sessions
pub mod Conversations
pub mod Asking
pub mod Requests
pub mod Unsent
pub mod OwedAnswers
