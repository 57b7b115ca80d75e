use Rattle.std.proofs.Common.{◌≡◌, ◌*◌, take}
use Rattle.stack_slots.specs.Groups.{together}
use Rattle.stack_slots.proofs.groups.are_grouped.Given as goal

-- the groups so far have these values
abbrev pub invariant-loop-index : goal.invariant-loop-index
invariant-loop-index l = together (take l.index l.groups) ≡ take (8 * l.index) l.values
