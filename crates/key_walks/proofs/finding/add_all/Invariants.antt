use Rattle.std.proofs.Common.{◌≡◌, ◌++◌}
use Rattle.key_walks.proofs.finding.add_all.Given as goal

-- the first ones were added
abbrev pub invariant-loop-key : goal.invariant-loop-key
invariant-loop-key l = l.keys.items ≡ l.fn.keys.items ++ l.yielded
