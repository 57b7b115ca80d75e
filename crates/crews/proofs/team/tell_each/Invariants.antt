use Rattle.std.proofs.Common.{◌≡◌, All, take, drop}
use Rattle.crews.specs.Steps.{IsToldBy, Pairwise}
use Rattle.crews.proofs.team.tell_each.Given as goal

abbrev pub invariant-loop-member : goal.invariant-loop-member
invariant-loop-member l = record {
  done : Pairwise (IsToldBy l.pass) (take l.member-index l.fn.team.items) (take l.member-index l.member-items);
  rest : drop l.member-index l.member-items ≡ drop l.member-index l.fn.team.items;
  map : All (λ member. member.map ≡ l.map) l.member-items;
}
