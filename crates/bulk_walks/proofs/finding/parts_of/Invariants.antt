use Rattle.std.proofs.Common.{◌≡◌, Ok, map}
use Rattle.bulk_walks.proofs.finding.parts_of.Given as goal

-- the parts so far
abbrev pub invariant-loop-answer : goal.invariant-loop-answer
invariant-loop-answer l = map Ok l.parts.items ≡ l.yielded
