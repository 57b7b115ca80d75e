-- Changes of entries, and the bytes that spell them in a batch.
use Rattle.std.specs.Prelude.{◌≡◌, ◌≢◌, ℕ, ◌≤◌, ◌<◌, ◌^◌, List, [], ◌∷◌, ◌++◌, ◌⊎◌, length, flat_map, Option, Some, None, IfSome}
use Rattle.std.specs.Int.{w32, w64, to_le_bytes}
use Rattle.bpf_model.specs.declared.limits.TheConstants.{KEY_BYTES, VALUE_BYTES}
use Rattle.kept_file.specs.declared.changes.Mark.{Mark}
use Rattle.kept_file.specs.declared.changes.Mark.TheVariants.{Gone, Lasting, Until}
use Rattle.kept_file.specs.declared.changes.KeptChange.{KeptChange}

-- what a key has: a value, with a deadline or none; or nothing
abbrev pub Entry : Type 0
Entry = Option (List ℕ × Option ℕ)

-- a key, and what it has from then on
abbrev pub Change : Type 0
Change = List ℕ × Entry

abbrev pub entry_of : Mark → List ℕ → Entry
entry_of Gone value = None
entry_of Lasting value = Some (value, None)
entry_of (Until at) value = Some (value, Some at)

abbrev pub change_of : KeptChange → Change
change_of change = (change.key, entry_of change.mark change.value)

-- the byte that says what the key has
abbrev pub mark_byte : Entry → ℕ
mark_byte None = 0
mark_byte (Some (value, None)) = 1
mark_byte (Some (value, Some at)) = 2

-- a deadline, in eight bytes, the lowest first
abbrev pub deadline_bytes : Option ℕ → List ℕ
deadline_bytes None = []
deadline_bytes (Some at) = to_le_bytes w64 at

-- the deadline, the length of the value in four bytes, and the value
abbrev pub entry_bytes : Entry → List ℕ
entry_bytes None = []
entry_bytes (Some entry) = deadline_bytes entry.1 ++ (to_le_bytes w32 (length entry.0) ++ entry.0)

-- the length of the key, a byte that says what it has, the key, and what it has
abbrev pub change_bytes : Change → List ℕ
change_bytes change = length change.0 ∷ mark_byte change.1 ∷ (change.0 ++ entry_bytes change.1)

-- .. one after the other
abbrev pub changes_bytes : List Change → List ℕ
changes_bytes changes = flat_map change_bytes changes

-- its key and its value have as many bytes as they may have, and its deadline is one of 64 bits
pub record IsWithin (change : Change) : Type 0 where
  pub key : length change.0 ≤ KEY_BYTES
  pub value : IfSome change.1 (λ entry. length entry.0 ≤ VALUE_BYTES)
  pub deadline : IfSome change.1 (λ entry. IfSome entry.1 (λ at. at < 2 ^ 64))

-- the bytes begin with no change within the limits
abbrev pub BeginsWithNone : List ℕ → Type 0
BeginsWithNone bytes = (change : Change) (rest : List ℕ) → IsWithin change → bytes ≢ change_bytes change ++ rest

-- .. with nothing that comes after the key of such a change with this mark
abbrev pub BeginsWithNoEntry : ℕ → List ℕ → Type 0
BeginsWithNoEntry mark bytes = (change : Change) (rest : List ℕ) → IsWithin change → mark ≡ mark_byte change.1 → bytes ≢ entry_bytes change.1 ++ rest

-- .. with no length of a value within the limit and the value
abbrev pub BeginsWithNoValue : List ℕ → Type 0
BeginsWithNoValue bytes = (value rest : List ℕ) → length value ≤ VALUE_BYTES → bytes ≢ (to_le_bytes w32 (length value) ++ value) ++ rest

-- the bytes begin with the length of a value, and it is above the limit
abbrev pub BeginsWithLongValue : List ℕ → Type 0
BeginsWithLongValue bytes = (count : ℕ) × (rest : List ℕ) × (bytes ≡ to_le_bytes w32 count ++ rest) × (VALUE_BYTES < count) × (count < 2 ^ 32)

-- .. after a deadline or none, as this mark says
abbrev pub BeginsWithLongEntry : ℕ → List ℕ → Type 0
BeginsWithLongEntry mark bytes = (deadline : Option ℕ) × (rest : List ℕ) × (mark ≡ mark_byte (Some ([], deadline))) × (bytes ≡ deadline_bytes deadline ++ rest) × BeginsWithLongValue rest

-- the bytes begin with the length of a key and a mark: that length is above the limit, or the length of the value after the key is
abbrev pub BeginsWithTooLong : List ℕ → Type 0
BeginsWithTooLong bytes = (count : ℕ) × (mark : ℕ) × (rest : List ℕ) × (bytes ≡ count ∷ mark ∷ rest)
    × ((KEY_BYTES < count) ⊎ ((key : List ℕ) × (after : List ℕ) × (length key ≡ count) × (rest ≡ key ++ after) × BeginsWithLongEntry mark after))

-- the bytes spell these changes, and no more
unfoldable pub Spells : List ℕ → List Change → Type 0
Spells bytes [] = bytes ≡ []
Spells bytes (change ∷ more) = (rest : List ℕ) × (bytes ≡ change_bytes change ++ rest) × IsWithin change × Spells rest more
