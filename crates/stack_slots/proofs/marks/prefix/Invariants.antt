use Rattle.std.proofs.Common.{◌≡◌, ◌<◌, ◌*◌, ℕ, true}
use Rattle.stack_slots.specs.Marks.{is_marked}
use Rattle.stack_slots.proofs.marks.prefix.Given as goal

-- all places of the words so far are marked
abbrev pub invariant-loop-index : goal.invariant-loop-index
invariant-loop-index l = (i : ℕ) → i < 64 * l.index → is_marked l.words i ≡ true
