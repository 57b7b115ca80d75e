-- Work on one stripe after the other.
use Rattle.std.specs.Prelude.{◌≡◌, ℕ, suc, ◌⊎◌, List, [], ◌∷◌, length, sum_by}
use Rattle.bins.specs.Table.{Entry}
use Rattle.bin_stripes.specs.Invoked.{Makes, Scans}
use Rattle.bin_stripes.specs.Passes.{PassState, ServesSameMap}

-- the pass did this with each item in turn
abbrev pub Chain : {X : Type 0} → (PassState → X → PassState → Type 0) → PassState → List X → PassState → Type 0
Chain Did old [] new = new ≡ old
Chain Did old (x ∷ xs) new = (between : PassState) × (ServesSameMap old between × (Did old x between × Chain Did between xs new))

-- the same, but the first item is of the stripe `at 0`, the second of the stripe `at 1`, and so on
abbrev pub InTurn : {X : Type 0} → (PassState → ℕ → X → PassState → Type 0) → (ℕ → ℕ) → PassState → List X → PassState → Type 0
InTurn Did at old [] new = new ≡ old
InTurn Did at old (x ∷ xs) new =
    (between : PassState) × (ServesSameMap old between × (Did old (at 0) x between × InTurn Did (λ i. at (suc i)) between xs new))

-- the keys of these entries, in any order: each as often, however you weigh keys
abbrev pub AreKeysOf : List Entry → List (List ℕ) → Type 0
AreKeysOf entries keys = (weight : List ℕ → ℕ) → sum_by weight keys ≡ sum_by (λ entry. weight entry.0) entries

-- the pass made one scan of the stripe k, which found these keys, in any order
pub record FindsKeys (old : PassState) (k : ℕ) (keys : List (List ℕ)) (new : PassState) : Type 0 where
  pub entries : List Entry
  pub scans : Scans old k entries new
  pub keys_are : AreKeysOf entries keys

-- the pass made nothing, or one scan of the stripe k
abbrev pub MayScan : PassState → ℕ → PassState → Type 0
MayScan old k new = Makes old k [] new ⊎ ((entries : List Entry) × Scans old k entries new)

-- a request for memory was refused: this was done on the first stripes in turn, and on the next one just what `Tried` says
pub record StopsIn {X : Type 0} (Did : PassState → ℕ → X → PassState → Type 0) (Tried : PassState → ℕ → PassState → Type 0) (at : ℕ → ℕ)
    (old new : PassState) : Type 0 where
  pub items : List X
  pub between : PassState
  pub turns : InTurn Did at old items between
  pub last : Tried between (at (length items)) new

-- on the next stripe nothing was done, or one scan
abbrev pub Stops : {X : Type 0} → (PassState → ℕ → X → PassState → Type 0) → (ℕ → ℕ) → PassState → PassState → Type 0
Stops Did at old new = StopsIn Did MayScan at old new
