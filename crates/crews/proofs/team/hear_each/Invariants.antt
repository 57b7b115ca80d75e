use Rattle.std.proofs.Common.{◌≡◌, take}
use Rattle.crews.specs.Steps.{HearsEach}
use Rattle.crews.proofs.team.hear_each.Given as goal

abbrev pub invariant-loop-member : goal.invariant-loop-member
invariant-loop-member l = record {
  heard : HearsEach l.fn.pass (take l.member-index l.team) l.pass;
  map : l.pass.map ≡ l.map;
}
