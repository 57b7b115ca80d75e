pub mod Pieces
pub mod Code
pub mod Heads
pub mod Scripts
pub mod Faults
pub mod Lua
