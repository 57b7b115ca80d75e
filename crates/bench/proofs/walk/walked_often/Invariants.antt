use Rattle.std.proofs.Common.{All}
use Rattle.bench.proofs.PassLemmas.{IsOf}
use Rattle.bench.proofs.walk.walked_often.Given as goal

-- the team's passes serve the map
abbrev pub invariant-loop-turn : goal.invariant-loop-turn
invariant-loop-turn g l = All (IsOf l.map) l.team.passes.items
