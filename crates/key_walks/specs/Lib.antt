pub mod Places
pub mod Turns
pub mod Expired
pub mod Walks
pub mod Pages
pub mod Iterations
