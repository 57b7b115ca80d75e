pub mod In
pub mod Edges
