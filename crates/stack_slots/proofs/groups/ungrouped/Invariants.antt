use Rattle.std.proofs.Common.{◌≡◌, ◌*◌, take, length}
use Rattle.stack_slots.specs.Groups.{together}
use Rattle.stack_slots.proofs.groups.ungrouped.Given as goal

-- the first values are those of the groups so far
abbrev pub invariant-loop-index : goal.invariant-loop-index
invariant-loop-index l = record {
  count : length l.values ≡ 64;
  value : take (8 * l.index) l.values ≡ together (take l.index l.groups);
}
