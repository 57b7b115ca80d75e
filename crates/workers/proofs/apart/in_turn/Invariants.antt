use Rattle.std.proofs.Common.{◌≡◌, ℕ, ◌+◌, ◌<◌, ◌≤◌, get_or, length}
use Rattle.std.specs.Fork.{ChangesAt}
use Rattle.workers.proofs.apart.in_turn.Given as goal

-- the first elements were changed, the others not yet
abbrev pub invariant-loop-k : goal.invariant-loop-k
invariant-loop-k g l = record {
  len : length l.s ≡ length l.initial.s;
  others : (j : ℕ) (d : g.row.T.Denot) → l.k ≤ j → get_or l.s j d ≡ get_or l.initial.s j d;
  changed : (j : ℕ) (d : g.row.T.Denot) → j < l.k → ChangesAt g.F.Fn l.f (l.base + j) (get_or l.initial.s j d) (get_or l.s j d);
}
