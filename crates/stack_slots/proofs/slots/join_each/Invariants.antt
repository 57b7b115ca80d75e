use Rattle.std.proofs.Common.{◌≡◌, ◌<◌, ◌≤◌, ℕ, None}
use Rattle.std.specs.Prelude.{slice_index_or}
use Rattle.stack_slots.specs.Frames.{IsSlotJoin}
use Rattle.stack_slots.proofs.slots.join_each.Given as goal

-- the slots so far are joined, the others unchanged
abbrev pub invariant-loop-index : goal.invariant-loop-index
invariant-loop-index l = record {
  done : (i : ℕ) → i < l.index → IsSlotJoin (slice_index_or l.initial.slots i None) (slice_index_or l.other i None) (slice_index_or l.slots i None);
  rest : (i : ℕ) → l.index ≤ i → slice_index_or l.slots i None ≡ slice_index_or l.initial.slots i None;
}
