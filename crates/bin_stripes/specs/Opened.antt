-- A new map and its passes.
use Rattle.std.specs.Prelude.{◌≡◌, ℕ, ◌≤◌, List, [], ◌∷◌, map}
use Rattle.atomic_table.specs.Seated.{TableId}
use Rattle.stripe_rule.specs.Rule.{from_on, newcomer}
use Rattle.bin_stripes.specs.Passes.{PassState, stripes_of}

-- a map may be opened with this many passes
abbrev pub IsPassCount : ℕ → Type 0
IsPassCount passes = (1 ≤ passes) × (passes ≤ 64)

-- a pass of a new map: it carries only the number k, and has seen and made nothing
abbrev pub pass_of : TableId → ℕ → ℕ → PassState
pass_of id passes k = record { map = id; view = newcomer (stripes_of id) passes (k ∷ []) }

-- the map has this many stripes, and its passes carry the numbers from 0 on, one each
pub record IsOpened (stripes passes : ℕ) (id : TableId) (all : List PassState) : Type 0 where
  pub stripes_are : stripes_of id ≡ stripes
  pub passes_are : all ≡ map (pass_of id passes) (from_on 0 passes)
