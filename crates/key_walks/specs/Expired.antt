-- Entries whose time is over are taken away before a stripe is scanned.
use Rattle.std.specs.Prelude.{◌≢◌, ℕ, List, [], ◌∷◌, ◌++◌, replicate}
use Rattle.bin_stripes.specs.declared.expiry.Expiry.{Expiry}
use Rattle.bin_stripes.specs.declared.expiry.Expiry.TheVariants.{Took}
use Rattle.bin_stripes.specs.Timed.{ExpiresOne}
use Rattle.bin_stripes.specs.Passes.{PassState, ServesSameMap}
use Rattle.key_walks.specs.Turns.{Chain, FindsKeys, MayScan, StopsIn}

-- the pass looked this often for an entry of the stripe k whose time was over, and took one away each time. Then it looked once
-- more, with this answer. Each look is a hold of its own, and each entry taken away is one Remove
abbrev pub Looks : ℕ → PassState → ℕ → ℕ → Expiry → PassState → Type 0
Looks now old k often last new = Chain (λ p answer q. ExpiresOne p k now answer q) old (replicate often Took ++ last ∷ []) new

-- it took entries of the stripe k away until it found none whose time was over
pub record Expires (now : ℕ) (old : PassState) (k : ℕ) (new : PassState) : Type 0 where
  pub often : ℕ
  pub last : Expiry
  pub looks : Looks now old k often last new
  pub none_left : last ≢ Took

-- it did that, and then this
pub record AfterExpiry (now : ℕ) (Did : PassState → PassState → Type 0) (old : PassState) (k : ℕ) (new : PassState) : Type 0 where
  pub between : PassState
  pub same : ServesSameMap old between
  pub expires : Expires now old k between
  pub did : Did between new

-- it did that, and then one scan of the stripe k found these keys, in any order
abbrev pub FindsLive : ℕ → PassState → ℕ → List (List ℕ) → PassState → Type 0
FindsLive now old k keys new = AfterExpiry now (λ p q. FindsKeys p k keys q) old k new

-- it did that, and then nothing, or one scan of the stripe k
abbrev pub MayScanLive : ℕ → PassState → ℕ → PassState → Type 0
MayScanLive now old k new = AfterExpiry now (λ p q. MayScan p k q) old k new

-- a request for memory was refused: this was done on the first stripes in turn; entries of the next one whose time was over were
-- taken away, and then nothing was done there, or one scan
abbrev pub StopsLive : {X : Type 0} → ℕ → (PassState → ℕ → X → PassState → Type 0) → (ℕ → ℕ) → PassState → PassState → Type 0
StopsLive now Did at old new = StopsIn Did (MayScanLive now) at old new
