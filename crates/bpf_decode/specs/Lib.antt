pub mod Opcodes
pub mod UnitFaults
pub mod Faults
pub mod OpcodeFields
pub mod Messages
