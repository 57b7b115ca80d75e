use Rattle.std.proofs.Common.{◌≡◌, ◌<◌, ◌≤◌, ℕ, ◌/◌, ◌&&◌}
use Rattle.stack_slots.specs.Marks.{is_marked}
use Rattle.stack_slots.proofs.marks.keep_common.Given as goal

-- in the words so far only common marks are kept, in the others all
abbrev pub invariant-loop-index : goal.invariant-loop-index
invariant-loop-index l = record {
  done : (i : ℕ) → i / 64 < l.index → is_marked l.words i ≡ (is_marked l.initial.words i && is_marked l.other i);
  rest : (i : ℕ) → l.index ≤ i / 64 → is_marked l.words i ≡ is_marked l.initial.words i;
}
