pub mod Rows
pub mod Filters
pub mod Notes
pub mod Marks
pub mod Packed
pub mod Tours
pub mod Hands
pub mod Taking
