-- Tries that were lost, and the last one.
use Rattle.std.proofs.Common.{ℕ, suc, List, Option}
use Rattle.timed_bins.specs.declared.timing.DeadlineChange.{DeadlineChange}
use Rattle.bin_stripes.specs.Passes.{PassState}
use Rattle.redis_service.specs.Changes.{Step, LosesTry, LosesTries, EndsTry, AnswersChange}

module _ (now : ℕ) (change : DeadlineChange) (key : List ℕ) (Does : Option (List ℕ) → Step → Type 0) where
  -- a try was not lost, after some that were
  pub ends_after : (before old new : PassState) (written : List ℕ) → (more : ℕ) × LosesTries now change key Does more before old → EndsTry now change key Does old written new
      → AnswersChange now change key Does before written new
  ends_after before old new written (more, lost) last = record { tries = more; mid = old; lost = lost; last = last }

  -- one more try was lost
  pub loses_more : (before old new : PassState) → (more : ℕ) × LosesTries now change key Does more before old → LosesTry now change key Does old new
      → (more : ℕ) × LosesTries now change key Does more before new
  loses_more before old new (more, lost) try = (suc more, (old, lost, try))
