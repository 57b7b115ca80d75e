pub mod Deadlines
pub mod Agendas
pub mod Heaps
pub mod Looks
pub mod Touched
pub mod Steps
