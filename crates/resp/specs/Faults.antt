-- The messages of faults, as Redis has them. It has none for a command that is too big.
use Rattle.std.specs.Prelude.{ℕ, List, [], ◌∷◌, ◌++◌, ◌||◌, nat_eq, codes, if◌then◌else◌}
use Rattle.resp.specs.declared.fault.RespFault.{RespFault}
use Rattle.resp.specs.declared.fault.RespFault.TheVariants.{BadCount, NoDollar, BadLength, TooBigCommand, NoNewline, TooBigLine, UnbalancedQuotes, TooManyWords}

-- a blank for the end of a line
abbrev pub shown : ℕ → ℕ
shown b = if nat_eq b 13 || nat_eq b 10 then 32 else b

abbrev pub fault_message : RespFault → List ℕ
fault_message BadCount = codes "ERR Protocol error: invalid multibulk length"
fault_message (NoDollar b) = codes "ERR Protocol error: expected '$', got '" ++ (shown b ∷ 39 ∷ [])
fault_message BadLength = codes "ERR Protocol error: invalid bulk length"
fault_message TooBigCommand = codes "ERR Protocol error: too big command"
fault_message NoNewline = codes "ERR Protocol error: invalid bulk length"
fault_message TooBigLine = codes "ERR Protocol error: too big inline request"
fault_message UnbalancedQuotes = codes "ERR Protocol error: unbalanced quotes in request"
fault_message TooManyWords = codes "ERR Protocol error: invalid multibulk length"
