-- Sweeps: entries whose time is over are taken away, even if no command asks for them.
use Rattle.std.specs.Prelude.{◌≡◌, ℕ, ◌<◌, min, List, [], ◌∷◌, length, Option, Some, None}
use Rattle.bin_stripes.specs.declared.expiry.Expiry.{Expiry}
use Rattle.bin_stripes.specs.declared.expiry.Expiry.TheVariants.{Took, Waits, Nothing}
use Rattle.bin_stripes.specs.Passes.{PassState, stripes_of}
use Rattle.key_walks.specs.Turns.{InTurn}
use Rattle.key_walks.specs.Expired.{Looks}
use Rattle.key_walks.specs.Walks.{each}

-- ---- what a sweep does

-- the pass took entries of the stripe k away, until the last look found none whose time was over, or took the twentieth away
pub record SweepsStripe (now : ℕ) (old : PassState) (k : ℕ) (last : Expiry) (new : PassState) : Type 0 where
  pub often : ℕ
  pub looks : Looks now old k often last new
  pub few : often < 20
  pub twentieth : last ≡ Took → often ≡ 19

-- it did that with all stripes in turn, and nothing else; these are the last answers
pub record SweepsAll (now : ℕ) (old : PassState) (last : List Expiry) (new : PassState) : Type 0 where
  pub turns : InTurn (SweepsStripe now) each old last new
  pub all : length last ≡ stripes_of old.map

abbrev pub Sweeps : ℕ → PassState → PassState → Type 0
Sweeps now old new = (last : List Expiry) × SweepsAll now old last new

-- ---- when the next sweep is due

-- the sooner of two times; none comes after every time
abbrev pub sooner : Option ℕ → Option ℕ → Option ℕ
sooner None other = other
sooner (Some at) None = Some at
sooner (Some at) (Some then) = Some (min at then)

-- when a stripe is to be looked at again after this answer
abbrev pub next_after : ℕ → Expiry → Option ℕ
next_after now Took = Some now
next_after now (Waits at) = Some at
next_after now Nothing = None

-- the soonest of these times, after the last answers of all stripes
abbrev pub next_of : ℕ → List Expiry → Option ℕ
next_of now [] = None
next_of now (answer ∷ more) = sooner (next_after now answer) (next_of now more)
