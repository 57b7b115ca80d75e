use Rattle.std.proofs.Common.{◌≡◌, ◌<◌, ℕ, None}
use Rattle.std.specs.Prelude.{slice_index_or}
use Rattle.stack_slots.proofs.slots.is_each_same.Given as goal

-- the slots so far have the same values
abbrev pub invariant-loop-index : goal.invariant-loop-index
invariant-loop-index l = (i : ℕ) → i < l.index → slice_index_or l.slots i None ≡ slice_index_or l.other i None
