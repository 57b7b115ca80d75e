pub mod Names
pub mod Text
pub mod Operands
pub mod Reading
pub mod Faults
