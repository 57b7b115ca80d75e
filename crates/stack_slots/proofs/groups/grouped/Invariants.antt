use Rattle.std.proofs.Common.{◌≡◌, ◌*◌, take, length}
use Rattle.stack_slots.specs.Groups.{together}
use Rattle.stack_slots.proofs.groups.grouped.Given as goal

-- the groups so far have the first values
abbrev pub invariant-loop-index : goal.invariant-loop-index
invariant-loop-index l = record {
  value : together l.groups.items ≡ take (8 * l.index) l.values;
  count : length l.groups.items ≡ l.index;
}
