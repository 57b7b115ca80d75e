-- Calls that no refusal of memory meets.
use Rattle.std.proofs.Common.{ℕ, List, inl, inr}
use Rattle.atomic_methods.specs.Invocations.{on_key, get, remove}
use Rattle.timed_bins.specs.declared.timing.DeadlineChange.TheVariants.{Keep}
use Rattle.bin_stripes.specs.Passes.{PassState}
use Rattle.redis_service.specs.Calls.{Refuses}

-- a Get that keeps the deadline adds no key
pub gets_are_not_refused : (now : ℕ) (old new : PassState) (key : List ℕ) → Refuses now Keep old (on_key key get) new → ⊥
gets_are_not_refused now old new key refused = elim refused.refuses.refuses.memory [
  | inl (absent, (value, (reply, (is, told)))) ↦ cc
  | inr asks ↦ cc
]

-- a Remove adds no key
pub removes_are_not_refused : (now : ℕ) (old new : PassState) (key : List ℕ) → Refuses now Keep old (on_key key remove) new → ⊥
removes_are_not_refused now old new key refused = elim refused.refuses.refuses.memory [
  | inl (absent, (value, (reply, (is, told)))) ↦ cc
  | inr asks ↦ cc
]
