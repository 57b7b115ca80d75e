-- Tours: keys whose rows are handed out in turn, by their ranks.
use Rattle.std.specs.Prelude.{◌≡◌, ◌⊎◌, ℕ, Bool, true, false, cond, List, Option}
use Rattle.std.specs.Coded.{Coded, code_by, coded_bool, coded_ℕ, coded_list, coded_option, coded×}
use Rattle.std.specs.List.{All}
use mathlib.Core.Path.{refl}
use Rattle.bins.specs.Ranks.{is_below, rank_in}
use Rattle.bins.specs.Table.{Table}
use Rattle.timed_bins.specs.Deadlines.{TimedTable}
use Rattle.noted_bins.specs.Notes.{NotedKeys, is_filtered, is_noted}
use Rattle.noted_bins.specs.Rows.{Row, has_row, row_of}

-- the keys with an entry that a filter may have, at ranks before one, or at all
pub record TourKeys : Type 0 where
  pub filter : List Bool
  pub below : Option ℕ

abbrev pub tour_code : Coded TourKeys
tour_code = code_by (List Bool × Option ℕ) (coded× (coded_list coded_bool) (coded_option coded_ℕ))
    (λ s. (s.filter, s.below)) (λ x. record { filter = x.0; below = x.1 }) (λ _. refl)

-- if a tour will hand a key out, in bins with this order and these entries
abbrev pub is_ahead : TourKeys → List (List ℕ) → Table → List ℕ → Bool
is_ahead tour order table key = cond (is_below tour.below (rank_in order key)) (is_filtered tour.filter table key) false

-- if a key's row is still to be handed out: it is noted, or a tour will hand it out
abbrev pub is_due : NotedKeys → TourKeys → List (List ℕ) → Table → List ℕ → Bool
is_due notes tour order table key = cond (is_noted notes table key) true (is_ahead tour order table key)

-- these rows are what is there of keys; a key that is no longer due has one
pub record HandsOver (due : List ℕ → Bool) (table : TimedTable) (rows : List Row) (due' : List ℕ → Bool) : Type 0 where
  pub present : All (λ (row : Row). row.1 ≡ row_of table row.0) rows
  pub known : (key : List ℕ) → due' key ≡ false → (has_row rows key ≡ true) ⊎ (due key ≡ false)
