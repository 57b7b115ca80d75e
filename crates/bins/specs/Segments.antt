-- The rows of one width in segments.
use Rattle.std.specs.Prelude.{◌≡◌, ℕ, ◌+◌, ◌-◌, ◌*◌, ◌/◌, ◌^◌, ◌<◌, ◌≤◌, ◌⊎◌, List, [], length, map, take, drop, slice_index_or}
use Rattle.std.specs.List.{range_with_len}
use Rattle.bins.specs.declared.width_rows.TheConstants.{FRONT_BYTES, HEAD_BYTES, SEGMENT_BYTES}
use Rattle.bins.specs.KeptRows.{HoldsRow, KeptRow, row_in}

-- the rows of a width, the most bytes that a key and its value may have in one, the number of segments that they lie in, and
-- the number of rows that the list of segments has room for
pub record KeptWidth : Type 0 where
  pub rows : List KeptRow
  pub most : ℕ
  pub segments : ℕ
  pub limit : ℕ

-- a width without rows
abbrev pub no_width : KeptWidth
no_width = record { rows = []; most = 0; segments = 0; limit = 0 }

-- the bytes of a row, if a segment has this many rows of this many bytes
abbrev pub slot : List (List ℕ) → ℕ → ℕ → ℕ → List ℕ
slot segments each stride i = take stride (drop (FRONT_BYTES + (i - i / each * each) * stride) (slice_index_or segments (i / each) []))

-- the first rows
abbrev pub rows_from : List (List ℕ) → ℕ → ℕ → ℕ → List KeptRow
rows_from segments each stride many = map (λ i. row_in (slot segments each stride i)) (range_with_len 0 many)

-- a row lies in a slot
pub record HoldsSlot (bytes : List ℕ) (stride : ℕ) : Type 0 where
  pub holds : HoldsRow bytes
  pub wide : length bytes ≡ stride

-- a row lies in each slot
abbrev pub HoldRows : List (List ℕ) → ℕ → ℕ → ℕ → Type 0
HoldRows segments each stride many = (i : ℕ) → i < many → HoldsSlot (slot segments each stride i) stride

-- this many bytes from a place on
abbrev pub part : List ℕ → ℕ → ℕ → List ℕ
part bytes start many = take many (drop start bytes)

-- bytes outside a part are unchanged
abbrev pub KeepsOthers : ℕ → ℕ → List ℕ → List ℕ → Type 0
KeepsOthers start stride old new = (at many : ℕ) → length (part old at many) ≡ many → (at + many ≤ start) ⊎ (start + stride ≤ at) → part new at many ≡ part old at many

-- all bytes that there were are unchanged
abbrev pub KeepsAll : List ℕ → List ℕ → Type 0
KeepsAll old new = (at many : ℕ) → length (part old at many) ≡ many → part new at many ≡ part old at many

-- rows lie one after the other, and there is a row in the last segment
pub record AreSegments (segments : List (List ℕ)) (shift most stride many : ℕ) : Type 0 where
  pub stride_is : stride ≡ HEAD_BYTES + most
  pub small : 9 ≤ shift
  pub bounded : shift < 64
  pub shape : FRONT_BYTES + 2 ^ shift * stride ≤ SEGMENT_BYTES
  pub enough : many ≤ length segments * 2 ^ shift
  pub needed : length segments * 2 ^ shift < many + 2 ^ shift
  pub rows : HoldRows segments (2 ^ shift) stride many

-- each segment holds 512 rows or more, but the last holds one or more
pub record AreFew (width : KeptWidth) : Type 0 where
  pub each : width.segments * 512 < length width.rows + 512

-- only the rows may differ
pub record IsSameBut (old new : KeptWidth) : Type 0 where
  pub most : new.most ≡ old.most
  pub segments : new.segments ≡ old.segments
  pub limit : new.limit ≡ old.limit

-- there is a segment for one more row, and the rows are unchanged
pub record IsOpened (old new : List (List ℕ)) (each many : ℕ) : Type 0 where
  pub room : many < length new * each
  pub needed : length new * each ≤ many + each
  pub slots : (stride i : ℕ) → i < many → slot new each stride i ≡ slot old each stride i

-- no segment is unused, and the rows are unchanged
pub record IsClosed (old new : List (List ℕ)) (each many : ℕ) : Type 0 where
  pub enough : many ≤ length new * each
  pub needed : length new * each < many + each
  pub slots : (stride i : ℕ) → i < many → slot new each stride i ≡ slot old each stride i
