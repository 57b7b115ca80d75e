-- What remains of lists in two parts, to be merged apart.
use Rattle.std.specs.Prelude.{◌≡◌, ◌<◌, ℕ, Bool, true, false, T, All, List, ◌++◌, length, map, slice_index_or}
use Rattle.std.specs.FinMap as finmap
use Rattle.std.specs.Ordering.{is_lt}
use Rattle.bins.specs.Merged.{entry_at}
use Rattle.bins.specs.declared.merged_entries.EntryPosition.{EntryPosition}
use Rattle.bins.specs.Table.{Entry, by_bytes}
use Rattle.bulk_walks.specs.Merges.{Remains, HasAll, left_of, lefts_of, lists_of}

-- whether an entry's key comes before this one
abbrev pub is_before : List ℕ → Entry → Bool
is_before key entry = is_lt (by_bytes entry.0 key)

-- the keys of the front come before this one, those of the back don't
pub record PartsAt (key : List ℕ) (whole front back : List Entry) : Type 0 where
  pub whole_is : whole ≡ front ++ back
  pub before : All (λ entry. is_before key entry ≡ true) front
  pub after : All (λ entry. is_before key entry ≡ false) back

-- the remaining entries were parted so; the list is the same
pub record IsParted (key : List ℕ) (whole front back : Remains) : Type 0 where
  pub parts : PartsAt key (left_of whole) (left_of front) (left_of back)
  pub front_list : front.list ≡ whole.list
  pub back_list : back.list ≡ whole.list

-- those of each list
pub record AreParted (key : List ℕ) (wholes fronts backs : List Remains) : Type 0 where
  pub fronts_many : length fronts ≡ length wholes
  pub backs_many : length backs ≡ length wholes
  pub each : (k : ℕ) (d : Remains) → k < length wholes → IsParted key (slice_index_or wholes k d) (slice_index_or fronts k d) (slice_index_or backs k d)

-- at these positions of the lists stand all remaining entries, in key order
abbrev pub PlacesAll : List Remains → List EntryPosition → Type 0
PlacesAll rests positions = (whole : List Entry) → T (finmap.is_sorted by_bytes whole) → HasAll whole (lefts_of rests) → map (entry_at (lists_of rests)) positions ≡ whole
