-- the bytes so far are told
use Rattle.std.proofs.Common.{◌≡◌, ◌++◌, string_bytes}
use Rattle.explanations.specs.Accesses.{unwritten_below}
use Rattle.explanations.proofs.access.write_unwritten.Given as goal

abbrev pub invariant-loop-step : goal.invariant-loop-step
invariant-loop-step l = string_bytes l.text ≡ string_bytes l.initial.text ++ unwritten_below l.frame l.bytes.window l.bytes.first l.bytes.end l.step
