-- The rows of a table's entries: a key and its value lie side by side, and the location of their position says where.
use Rattle.std.specs.Prelude.{◌≡◌, ℕ, ◌+◌, ◌<◌, ◌≤◌, ◌%◌, ◌/◌, Bool, false, cond, nat_eq, List, [], length, map, take, drop, count_by, slice_index_or, ⊤}
use Rattle.bpf_model.specs.declared.limits.TheConstants.{KEY_BYTES, VALUE_BYTES}
use Rattle.byteorder.specs.Endian.{little_bytes, little_number}
use Rattle.bins.specs.declared.locations.TheConstants.{MOST_ROWS, VACANT_CODE, WIDTH_CODES}
use Rattle.bins.specs.declared.locations.Width.{Width}
use Rattle.bins.specs.declared.locations.Location.{Location}
use Rattle.bins.specs.declared.locations.Location.TheVariants.{Vacant, In}

-- a key and its value, and the position whose location names their row
pub record KeptRow : Type 0 where
  pub key : List ℕ
  pub value : List ℕ
  pub owner : ℕ

-- the keys and their values, at the same positions, and the number of entries that fit before memory is asked for
pub record KeptEntries : Type 0 where
  pub keys : List (List ℕ)
  pub values : List (List ℕ)
  pub room : ℕ

-- the rows of each width
abbrev pub Lists : Type 0
Lists = Width → List KeptRow

-- the rows of one width
abbrev pub rows_of : Lists → Width → List KeptRow
rows_of lists width = lists width

abbrev pub is_same_width : Width → Width → Bool
is_same_width width other = nat_eq width.step other.step

-- the same lists, except the rows of one width
abbrev pub with_rows : Lists → Width → List KeptRow → Lists
with_rows lists width rows = λ other. cond (is_same_width width other) rows (lists other)

-- stands in no list
abbrev pub nobody : KeptRow
nobody = record { key = []; value = []; owner = 0 }

-- the location that a word names
abbrev pub location_of : ℕ → Location
location_of word = cond (nat_eq (word % WIDTH_CODES) VACANT_CODE) Vacant (In (record { step = word % WIDTH_CODES }) (word / WIDTH_CODES))

-- the location at a position
abbrev pub location_at : List Location → ℕ → Location
location_at locations p = slice_index_or locations p Vacant

-- the row at a position of its list
abbrev pub row_at : List KeptRow → ℕ → KeptRow
row_at rows i = slice_index_or rows i nobody

-- the row of a location
abbrev pub row_of : Lists → Location → KeptRow
row_of lists Vacant = nobody
row_of lists (In width i) = row_at (rows_of lists width) i

-- the keys of all locations
abbrev pub keys_of : List Location → Lists → List (List ℕ)
keys_of locations lists = map (λ location. (row_of lists location).key) locations

-- the values of all locations
abbrev pub values_of : List Location → Lists → List (List ℕ)
values_of locations lists = map (λ location. (row_of lists location).value) locations

-- the location names a row of this width
abbrev pub is_in : Width → Location → Bool
is_in width Vacant = false
is_in width (In other i) = is_same_width width other

-- of one width: each location names a row that it owns, each row is named by its owner, and there are no more
pub record AreMatched (width : Width) (locations : List Location) (rows : List KeptRow) : Type 0 where
  pub named : (p i : ℕ) → location_at locations p ≡ In width i → (i < length rows) × ((row_at rows i).owner ≡ p)
  pub owned : (i : ℕ) → i < length rows → location_at locations (row_at rows i).owner ≡ In width i
  pub counted : count_by (is_in width) locations ≡ length rows

-- the same holds for each width
pub record AreRows (locations : List Location) (lists : Lists) : Type 0 where
  pub matched : (width : Width) → AreMatched width locations (rows_of lists width)
  pub few : length locations ≤ MOST_ROWS

-- the string at a position
abbrev pub string_at : List (List ℕ) → ℕ → List ℕ
string_at strings p = slice_index_or strings p []

-- a location that eight bytes have room for
abbrev pub IsNear : Location → Type 0
IsNear Vacant = ⊤
IsNear (In width i) = (width.step < VACANT_CODE) × (i < MOST_ROWS)

-- the row of this owner
abbrev pub kept : List ℕ → List ℕ → ℕ → KeptRow
kept key value owner = record { key = key; value = value; owner = owner }

-- the number in this many first bytes, the lowest byte first
unfoldable pub number : ℕ → List ℕ → ℕ
number many bytes = little_number many bytes

-- a number in this many bytes
unfoldable pub word_of : ℕ → ℕ → List ℕ
word_of many value = little_bytes many value

-- a row's bytes: its owner in eight, then its key and then its value
abbrev pub owner_in : List ℕ → ℕ
owner_in bytes = number 8 bytes

abbrev pub key_length : List ℕ → ℕ
key_length bytes = number 2 (drop 8 bytes)

abbrev pub key_in : List ℕ → List ℕ
key_in bytes = take (key_length bytes) (drop 10 bytes)

-- the place at which the value begins
abbrev pub value_place : List ℕ → ℕ
value_place bytes = 10 + key_length bytes

abbrev pub value_length : List ℕ → ℕ
value_length bytes = number 4 (drop (value_place bytes) bytes)

abbrev pub value_in : List ℕ → List ℕ
value_in bytes = take (value_length bytes) (drop (value_place bytes + 4) bytes)

-- the row that has these bytes
abbrev pub row_in : List ℕ → KeptRow
row_in bytes = kept (key_in bytes) (value_in bytes) (owner_in bytes)

-- a key and a value lie in these bytes, and are not too long
pub record HoldsRow (bytes : List ℕ) : Type 0 where
  pub range : value_place bytes + (4 + value_length bytes) ≤ length bytes
  pub key : key_length bytes ≤ KEY_BYTES
  pub value : value_length bytes ≤ VALUE_BYTES
