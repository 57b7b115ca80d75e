pub mod Walks
pub mod Turns
pub mod Merges
pub mod Kept
pub mod Leads
pub mod Runs
pub mod Halves
