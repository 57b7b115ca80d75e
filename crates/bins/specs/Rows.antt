-- The rows of a table in segments, and the room for more of them.
use Rattle.std.specs.Prelude.{◌≡◌, ℕ, zero, suc, ◌+◌, ◌/◌, ◌<◌, ◌≤◌, ◌-◌, List, [], length, min, slice_index_or, vec_capacity}
use Rattle.bpf_model.specs.declared.limits.TheConstants.{KEY_BYTES, VALUE_BYTES}
use Rattle.bins.specs.declared.locations.TheConstants.{MOST_ROWS}
use Rattle.bins.specs.declared.locations.Width.{Width}
use Rattle.bins.specs.declared.raw_rows.RawRows.{RawRows}
use Rattle.bins.specs.declared.pool.TheConstants.{WIDTHS}
use Rattle.bins.specs.KeptRows.{AreRows, KeptRow, Lists, keys_of, values_of}
use Rattle.bins.specs.Segments.{AreFew, KeptWidth, no_width}

-- the rows of a width, with the facts about them
abbrev pub width_at : List KeptWidth → ℕ → KeptWidth
width_at widths step = slice_index_or widths step no_width

-- the rows of one structure
abbrev pub lists_in : RawRows → Lists
lists_in raw = λ width. (width_at raw.widths.items width.step).rows

-- the rows of one width
abbrev pub rows_in : RawRows → Width → List KeptRow
rows_in raw width = (width_at raw.widths.items width.step).rows

abbrev pub AreIn : RawRows → Type 0
AreIn raw = AreRows raw.locations.items (lists_in raw)

abbrev pub keys_in : RawRows → List (List ℕ)
keys_in raw = keys_of raw.locations.items (lists_in raw)

abbrev pub values_in : RawRows → List (List ℕ)
values_in raw = values_of raw.locations.items (lists_in raw)

-- the sum of the first n numbers
unfoldable pub total : ℕ → (ℕ → ℕ) → ℕ
total zero f = 0
total (suc n) f = total n f + f n

-- how many segments hold rows
abbrev pub used : List KeptWidth → ℕ
used widths = total WIDTHS (λ step. (width_at widths step).segments)

-- this many segments are enough for this many rows of any widths
abbrev pub segments_for : ℕ → ℕ
segments_for positions = min positions (positions / 512 + (WIDTHS + 1))

-- there are lists for the rows of each width, and the last width takes any key and any value
pub record AreWidths (widths : List KeptWidth) : Type 0 where
  pub all : length widths ≡ WIDTHS
  pub widest : KEY_BYTES + VALUE_BYTES ≤ (width_at widths (WIDTHS - 1)).most

-- the lists have no rows
pub record AreEmpty (widths : List KeptWidth) : Type 0 where
  pub rows : (step : ℕ) → (width_at widths step).rows ≡ []
  pub segments : (step : ℕ) → (width_at widths step).segments ≡ 0

-- nothing changed, except that lists may have more room
pub record AreWider (old new : List KeptWidth) : Type 0 where
  pub many : length new ≡ length old
  pub rows : (step : ℕ) → (width_at new step).rows ≡ (width_at old step).rows
  pub most : (step : ℕ) → (width_at new step).most ≡ (width_at old step).most
  pub segments : (step : ℕ) → (width_at new step).segments ≡ (width_at old step).segments
  pub limit : (step : ℕ) → (width_at old step).limit ≤ (width_at new step).limit

-- a row of this width has room for this many bytes of a key and of a value
pub record FitIn (raw : RawRows) (width : Width) (key value : ℕ) : Type 0 where
  pub both : key + value ≤ (width_at raw.widths.items width.step).most
  pub value_fits : value ≤ VALUE_BYTES

-- this many rows of any widths have room, without more memory
pub record HasRoom (raw : RawRows) (many : ℕ) : Type 0 where
  pub near : many ≤ MOST_ROWS
  pub locations : many ≤ vec_capacity raw.locations
  pub listed : 0 < many → 0 < length raw.widths.items
  pub limits : (step : ℕ) → step < length raw.widths.items → many ≤ (width_at raw.widths.items step).limit
  pub segments : segments_for many ≤ used raw.widths.items + length raw.free.items

-- this holds for the positions that there are, and the list of free segments has room for all segments
pub record IsRoomy (raw : RawRows) : Type 0 where
  pub inside : length raw.locations.items ≤ raw.room
  pub room : HasRoom raw raw.room
  pub ready : 0 < length raw.widths.items → AreWidths raw.widths.items
  pub few : (step : ℕ) → AreFew (width_at raw.widths.items step)
  pub pool : used raw.widths.items + length raw.free.items ≤ vec_capacity raw.free

-- both hold
pub record IsKept (raw : RawRows) : Type 0 where
  pub rows : AreIn raw
  pub room : IsRoomy raw
