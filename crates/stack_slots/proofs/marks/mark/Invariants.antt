use Rattle.std.proofs.Common.{◌≡◌, ℕ, ◌/◌, ◌&&◌, ◌||◌, nat_lt, nat_le}
use Rattle.stack_slots.specs.Marks.{is_marked}
use Rattle.stack_slots.proofs.marks.mark.Given as goal

-- the places in the words so far are marked
abbrev pub invariant-loop-index : goal.invariant-loop-index
invariant-loop-index l =
    (i : ℕ) → is_marked l.words i
    ≡ (((nat_le l.first i && nat_lt i l.end) && nat_lt (i / 64) l.index) || is_marked l.initial.words i)
