-- The positions of keys in a list, in a tree beside the list.
use Rattle.std.specs.Prelude.{◌≡◌, ℕ, cond, List, Option, Some}
use Rattle.std.specs.List.{slice_get}
use Rattle.std.specs.Ordering.{eq_by_cmp}
use Rattle.std.specs.BTreeMap.{BTreeMap, get}
use Rattle.bins.specs.Table.{by_bytes}

abbrev pub Positions : Type 0
Positions = BTreeMap (List ℕ) ℕ

-- each key that stands in the list has its position, and no other key has one
pub record Locates (positions : Positions) (keys : List (List ℕ)) : Type 0 where
  pub has : (key : List ℕ) (position : ℕ) → slice_get keys position ≡ Some key → get by_bytes positions key ≡ Some position
  pub only : (key : List ℕ) (position : ℕ) → get by_bytes positions key ≡ Some position → slice_get keys position ≡ Some key

-- a key has this position now (nothing: it has none), and each other key has what it had
abbrev pub Sets : Positions → Positions → List ℕ → Option ℕ → Type 0
Sets old new key position =
    (other : List ℕ) → get by_bytes new other ≡ cond (eq_by_cmp by_bytes key other) position (get by_bytes old other)

-- no key stands at two positions
abbrev pub StandOnce : List (List ℕ) → Type 0
StandOnce keys = (i j : ℕ) (key : List ℕ) → slice_get keys i ≡ Some key → slice_get keys j ≡ Some key → i ≡ j
