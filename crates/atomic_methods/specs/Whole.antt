-- A table kept in stripes: each key's entry is in the stripe of its hash. Our profile.
use Rattle.std.specs.Prelude.{◌≡◌, ◌≢◌, ℕ, ◌+◌, List, [], ◌∷◌, Option, None, length, flat_map, slice_index_or}
use Rattle.std.specs.FinMap as map
use Rattle.verifier.specs.Checked.{Checked}
use Rattle.bins.specs.declared.counts.Counts.{Counts}
use Rattle.bins.specs.Table.{Table}
use Rattle.bins.specs.Replacements.{ReplacesEach}
use Rattle.atomic_methods.specs.Hashes.{stripe_of, IsStripeCount}

-- all entries, stripe after stripe
abbrev pub all_entries : List Table → List (List ℕ × List ℕ)
all_entries stripes = flat_map map.entries stripes

-- one table of all entries
abbrev pub whole : List Table → Table
whole stripes = map.from_entries (all_entries stripes)

-- the table of one stripe
abbrev pub stripe_at : List Table → ℕ → Table
stripe_at stripes i = slice_index_or stripes i map.empty

-- there may be this many stripes, and no stripe has a key of another
pub record AreStripes (stripes : List Table) : Type 0 where
  pub count : IsStripeCount (length stripes)
  pub apart : (i : ℕ) (key : List ℕ) → i ≢ stripe_of (length stripes) key → map.get (stripe_at stripes i) key ≡ None

-- each count is the sum of the two
pub record IsSum (total first second : Counts) : Type 0 where
  pub scanned : total.scanned ≡ first.scanned + second.scanned
  pub given : total.given ≡ first.given + second.given
  pub unfit : total.unfit ≡ first.unfit + second.unfit

-- nothing was counted
pub record IsZero (total : Counts) : Type 0 where
  pub scanned : total.scanned ≡ 0
  pub given : total.given ≡ 0
  pub unfit : total.unfit ≡ 0

-- the values of each stripe were replaced once, and counted together
abbrev pub ReplacesStripes : Checked → Option (List ℕ) → List Table → List Table → Counts → Type 0
ReplacesStripes checked arg [] [] total = IsZero total
ReplacesStripes checked arg [] (new ∷ news) total = ⊥
ReplacesStripes checked arg (old ∷ olds) [] total = ⊥
ReplacesStripes checked arg (old ∷ olds) (new ∷ news) total =
    (here : Counts) × ((rest : Counts)
    × (ReplacesEach checked arg old new here × (ReplacesStripes checked arg olds news rest × IsSum total here rest)))
