pub mod History
pub mod Gains
pub mod Rule
pub mod Steps
pub mod Words
