-- Deadlines listed by time, and the rows of deadlines.
use Rattle.std.specs.Prelude.{◌≡◌, ◌≢◌, ℕ, ◌<◌, List, Option, Some, None, length, option_map, nat_eq, if◌then◌else◌}
use Rattle.std.specs.Coded.{Coded, code_by, coded_ℕ, coded_list, coded×}
use Rattle.std.specs.List.{Contains}
use Rattle.std.specs.Int.{w64, from_le_bytes}
use Rattle.std.specs.FinMap as map
use mathlib.Core.Path.{refl}
use Rattle.bins.specs.Table.{Entry, Table, table_code}
use Rattle.bins.specs.Entries.{entry_of}

-- a deadline with its key
abbrev pub Due : Type 0
Due = ℕ × List ℕ

-- eight bytes as a number, the low one first
abbrev pub number_of : List ℕ → ℕ
number_of bytes = if nat_eq (length bytes) 8 then from_le_bytes w64 bytes else 0

-- the deadline of a key, if this table has the bytes of all of them
abbrev pub deadline_of : Table → List ℕ → Option ℕ
deadline_of times key = option_map number_of (map.get times key)

-- the entries of bins, if there are bins
abbrev pub entries_of : {B : Type 0} → (B → Table) → Option B → Table
entries_of content None = map.empty
entries_of content (Some bins) = content bins

-- the deadlines of keys, in eight bytes each, and a list that has each of them with its key. It may have others too
pub record Schedule : Type 0 where
  pub times : Table
  pub listed : List Due

abbrev pub schedule_code : Coded Schedule
schedule_code =
    code_by (Table × List Due) (coded× table_code (coded_list (coded× coded_ℕ (coded_list coded_ℕ))))
    (λ s. (s.times, s.listed)) (λ x. record { times = x.0; listed = x.1 }) (λ _. refl)

-- each deadline is listed
abbrev pub AreListed : Table → List Due → Type 0
AreListed times listed =
    (key bytes : List ℕ) → map.get times key ≡ Some bytes → Contains listed (number_of bytes, key)

-- so are those of the first rows of a list
abbrev pub AreRowsListed : List Entry → ℕ → List Due → Type 0
AreRowsListed rows many listed =
    (k : ℕ) → k < many → Contains listed (number_of (entry_of rows k).1, (entry_of rows k).0)

-- the key has this deadline now, or none; other keys have what they had
pub record SetsDeadline (old new : Table) (key : List ℕ) (deadline : Option ℕ) : Type 0 where
  pub here : deadline_of new key ≡ deadline
  pub others : (other : List ℕ) → other ≢ key → map.get new other ≡ map.get old other

-- what timed bins keep: the entries, the keys in the order of their places, the bytes of each deadline, and the latest time that was
-- told
pub record Kept : Type 0 where
  pub table : Table
  pub order : List (List ℕ)
  pub times : Table
  pub latest : ℕ

abbrev pub kept_code : Coded Kept
kept_code =
    code_by (Table × (List (List ℕ) × (Table × ℕ))) (coded× table_code (coded× (coded_list (coded_list coded_ℕ)) (coded× table_code coded_ℕ)))
    (λ k. (k.table, (k.order, (k.times, k.latest)))) (λ x. record { table = x.0; order = x.1.0; times = x.1.1.0; latest = x.1.1.1 }) (λ _. refl)

-- only a key with an entry has a deadline
abbrev pub AreOfEntries : Table → Table → Type 0
AreOfEntries table times = (key : List ℕ) → map.get table key ≡ None → map.get times key ≡ None

-- there is a row for the key, and this deadline is listed with it
pub record HasRoom (schedule : Schedule) (key : List ℕ) (at : ℕ) : Type 0 where
  pub row : List ℕ
  pub has_row : map.get schedule.times key ≡ Some row
  pub listed : Contains schedule.listed (at, key)

-- the first that there is
abbrev pub first_of : Option ℕ → Option ℕ → Option ℕ
first_of (Some one) other = Some one
first_of None other = other
