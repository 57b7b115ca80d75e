pub mod Streams
pub mod LineWords
pub mod Grammar
pub mod Readings
pub mod Reading
pub mod Faults
pub mod Replies
