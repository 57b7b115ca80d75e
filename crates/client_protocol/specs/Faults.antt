-- The numbers and the messages of faults.
use Rattle.std.specs.Prelude.{ℕ, List, codes}
use Rattle.client_protocol.specs.declared.fault.ProtocolFault.{ProtocolFault}
use Rattle.client_protocol.specs.declared.fault.ProtocolFault.TheVariants.{BadLength, UnknownRequest, BadField, TrailingBytes, WrongVersion}

-- the number with which a fault is sent
abbrev pub protocol_fault_number : ProtocolFault → ℕ
protocol_fault_number BadLength = 60
protocol_fault_number UnknownRequest = 61
protocol_fault_number BadField = 62
protocol_fault_number TrailingBytes = 63
protocol_fault_number WrongVersion = 64

-- the text of a fault
abbrev pub protocol_fault_message : ProtocolFault → List ℕ
protocol_fault_message BadLength = codes "bad length of a frame"
protocol_fault_message UnknownRequest = codes "unknown request"
protocol_fault_message BadField = codes "bad field"
protocol_fault_message TrailingBytes = codes "bytes behind the last field"
protocol_fault_message WrongVersion = codes "wrong version, or a Hello out of place"
