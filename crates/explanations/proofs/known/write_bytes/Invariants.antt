-- the bytes so far are told
use Rattle.std.proofs.Common.{◌≡◌, ◌++◌, string_bytes}
use Rattle.explanations.specs.Known.{bytes_below}
use Rattle.explanations.proofs.known.write_bytes.Given as goal

abbrev pub invariant-loop-byte : goal.invariant-loop-byte
invariant-loop-byte l = string_bytes l.text ≡ string_bytes l.initial.text ++ bytes_below l.frame l.window l.size l.byte
