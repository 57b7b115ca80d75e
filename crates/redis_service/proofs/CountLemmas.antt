-- Walks keep the numbers that a pass carries.
use Rattle.std.proofs.Common.{◌≡◌, ℕ, suc, List, [], ◌∷◌, ap, ◌∙◌}
use Rattle.bin_stripes.specs.Passes.{PassState}
use Rattle.bin_stripes.specs.Invoked.{CountsStripe}
use Rattle.key_walks.specs.Turns.{InTurn}
use Rattle.key_walks.specs.Walks.{CountsAll}

turns_keep : (at : ℕ → ℕ) (old new : PassState) (counts : List ℕ) → InTurn CountsStripe at old counts new → new.view.numbers ≡ old.view.numbers
turns_keep at old new [] same = ap (λ (p : PassState). p.view.numbers) same
turns_keep at old new (n ∷ counts) (mid, (same, (counted, later))) = turns_keep (λ i. at (suc i)) mid new counts later ∙ counted.scans.numbers

pub count_keeps : (old new : PassState) (count : ℕ) → CountsAll old count new → new.view.numbers ≡ old.view.numbers
count_keeps old new count all = turns_keep _ old new all.counts all.turns
