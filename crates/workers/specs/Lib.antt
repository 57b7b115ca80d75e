pub mod Workers
pub mod Apart
