-- A walk by pages: each begins at the cursor that the one before gave.
use Rattle.std.specs.Prelude.{◌≡◌, ℕ, ◌+◌, ◌-◌, ◌/◌, ◌^◌, ◌<◌, ◌≤◌, ◌⊎◌, max, List, [], ◌∷◌, ◌++◌, length, filter, flat_map, count_by}
use Rattle.bins.specs.Table.{Entry}
use Rattle.bin_stripes.specs.Invoked.{Scans}
use Rattle.bin_stripes.specs.Passes.{PassState, stripes_of}
use Rattle.key_walks.specs.Places.{start_of, stands_in, cursor_of}
use Rattle.key_walks.specs.Turns.{InTurn, AreKeysOf}
use Rattle.key_walks.specs.Expired.{AfterExpiry}

-- what a page took from one stripe: the keys from a place on up to another; and how many keys the page had before
pub record Part : Type 0 where
  pub from : ℕ
  pub until : ℕ
  pub before : ℕ
  pub keys : List (List ℕ)

-- one scan of the stripe k, and this part of what it found. It goes on until the page has enough keys or the stripe ends;
-- all keys at its last place are in it, and without them the page would not have enough
pub record Takes (most : ℕ) (old : PassState) (k : ℕ) (part : Part) (new : PassState) : Type 0 where
  pub entries : List Entry
  pub scans : Scans old k entries new
  pub begins : part.from / 2 ^ 32 ≡ k
  pub goes_on : part.from < part.until
  pub ends : part.until ≤ start_of (k + 1)
  pub keys_are : AreKeysOf (filter (λ entry. stands_in k part.from part.until entry.0) entries) part.keys
  pub enough : (most ≤ part.before + length part.keys) ⊎ (part.until ≡ start_of (k + 1))
  pub few : part.before + count_by (λ entry. stands_in k part.from (part.until - 1) entry.0) entries < most

-- entries of the stripe k whose time was over were taken away, and then this part was taken
abbrev pub TakesLive : ℕ → ℕ → PassState → ℕ → Part → PassState → Type 0
TakesLive now most old k part new = AfterExpiry now (λ p q. Takes most p k part q) old k new

-- one more part was taken, by a page that had these keys and had come to this place; it then has more keys and has come further
pub record TakesMore (now most : ℕ) (old : PassState) (before : List (List ℕ)) (from : ℕ) (after : List (List ℕ)) (until : ℕ)
    (new : PassState) : Type 0 where
  pub part : Part
  pub takes : TakesLive now most old (from / 2 ^ 32) part new
  pub from_is : part.from ≡ from
  pub until_is : part.until ≡ until
  pub before_is : part.before ≡ length before
  pub added : after ≡ before ++ part.keys

-- each part begins where the one before ended, and counts the keys before it
abbrev pub Follow : ℕ → ℕ → List Part → ℕ → Type 0
Follow from before [] until = until ≡ from
Follow from before (part ∷ parts) until =
    (part.from ≡ from) × ((part.before ≡ before) × Follow part.until (before + length part.keys) parts until)

-- the stripes from the one of this place on
abbrev pub stripes_from : ℕ → ℕ → ℕ
stripes_from place i = place / 2 ^ 32 + i

-- a page from a cursor on: parts of one stripe after the other, until there are enough keys or no stripe is left
pub record IsPage (now : ℕ) (old : PassState) (cursor most : ℕ) (keys : List (List ℕ)) (next : ℕ) (new : PassState) : Type 0 where
  pub parts : List Part
  pub until : ℕ
  pub turns : InTurn (TakesLive now (max most 1)) (stripes_from cursor) old parts new
  pub follow : Follow cursor 0 parts until
  pub keys_are : keys ≡ flat_map (λ part. part.keys) parts
  pub enough : (max most 1 ≤ length keys) ⊎ (start_of (stripes_of old.map) ≤ until)
  pub next_is : next ≡ cursor_of (stripes_of old.map) until
