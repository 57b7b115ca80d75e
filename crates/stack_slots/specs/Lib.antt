pub mod Kept
pub mod Marks
pub mod Offsets
pub mod Values
pub mod Accesses
pub mod Frames
pub mod Groups
