pub mod Tokens
pub mod Sent
