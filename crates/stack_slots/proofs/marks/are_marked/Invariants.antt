use Rattle.std.proofs.Common.{◌≡◌, ◌<◌, ◌≤◌, ℕ, ◌/◌, true}
use Rattle.stack_slots.specs.Marks.{is_marked}
use Rattle.stack_slots.proofs.marks.are_marked.Given as goal

-- the places in the words so far are marked
abbrev pub invariant-loop-index : goal.invariant-loop-index
invariant-loop-index l = (i : ℕ) → l.first ≤ i → i < l.end → i / 64 < l.index → is_marked l.words i ≡ true
