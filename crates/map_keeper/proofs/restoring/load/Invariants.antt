use Rattle.std.proofs.Common.{◌≡◌}
use Rattle.map_keeper.proofs.restoring.load.Given as goal

-- the scripts so far were loaded
abbrev pub invariant-loop-text : goal.invariant-loop-text
invariant-loop-text g l = l.place ≡ l.text-index
