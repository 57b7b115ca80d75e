pub mod Requests
pub mod Buffers
pub mod Faults
pub mod Bodies
pub mod Frames
pub mod Reading
pub mod Responses
