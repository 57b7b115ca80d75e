pub mod Invocations
pub mod Methods
pub mod Hashes
pub mod Whole
pub mod Runs
pub mod Faults
pub mod Plans
pub mod Replies
