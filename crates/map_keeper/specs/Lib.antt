pub mod Keepers
pub mod Saves
pub mod Stripes
pub mod Restores
pub mod Written
pub mod Kept
pub mod Parts
