use Rattle.std.proofs.Common.{◌≡◌, ℕ, suc, ◌-◌, None, get_or, vec_len}
use Rattle.verifier.proofs.walk.pending.Pending.reach.Given as goal

abbrev pub invariant-loop-self : goal.invariant-loop-self
invariant-loop-self l = (other : ℕ) → get_or l.self.states.items other None ≡ get_or l.initial.self.states.items other None

abbrev pub decreases-loop-self : goal.decreases-loop-self
decreases-loop-self l = suc l.unit - vec_len l.self.states
