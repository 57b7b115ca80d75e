pub mod Jumps
pub mod FlowShape
pub mod Layouts
pub mod Messages
