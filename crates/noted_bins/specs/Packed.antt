-- Entries side by side in one list of bytes.
use Rattle.std.specs.Prelude.{ℕ, ◌+◌, ◌-◌, ◌≤◌, List, take, drop}
use Rattle.bpf_model.specs.declared.limits.TheConstants.{KEY_BYTES, VALUE_BYTES}
use Rattle.bins.specs.Table.{Entry}
use Rattle.noted_bins.specs.declared.packed_entries.Place.{Place}

-- the bytes from one position up to another
abbrev pub between : List ℕ → ℕ → ℕ → List ℕ
between bytes from to = take (to - from) (drop from bytes)

-- the key and the value at a place
abbrev pub entry_at : List ℕ → Place → Entry
entry_at bytes place = (between bytes place.start place.middle, between bytes place.middle place.end)

-- the place is one among this many bytes, and its key and its value have at most as many as they may
pub record LiesIn (many : ℕ) (place : Place) : Type 0 where
  pub key : place.start ≤ place.middle
  pub value : place.middle ≤ place.end
  pub inside : place.end ≤ many
  pub key_fits : place.middle ≤ place.start + KEY_BYTES
  pub value_fits : place.end ≤ place.middle + VALUE_BYTES
