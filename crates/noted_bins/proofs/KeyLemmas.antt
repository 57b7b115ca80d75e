-- Keys in a list of noted ones.
use Rattle.std.proofs.Common.{◌≡◌, ◌≢◌, ℕ, zero, suc, ◌<◌, ◌-◌, Bool, true, false, cond, List, [], ◌∷◌, ◌++◌, length, append_assoc, refl, sym, ap, ◌∙◌, ◌⊎◌, inl, inr, arith, get_or}
use Rattle.std.specs.Str.{bytes_eq}
use Rattle.std.proofs.lemmas.Map.Text.{is_eq-slice_cmp}
use Rattle.bins.proofs.DistinctEntries.{same_itself, alike}
use Rattle.bins.specs.Table.{Table}
use Rattle.noted_bins.specs.Filters.{may_have}
use Rattle.noted_bins.specs.Notes.{NotedKeys, KeepsNoted, NotesKey, has_entry, has_key, is_filtered, is_noted}
use Rattle.noted_bins.specs.Rows.{same_key}

-- a test that fails
pub neither : (a b : Bool) → cond a true b ≡ false → (a ≡ false) × (b ≡ false)
neither true b e = absurd cc
neither false b e = (refl, e)

pub either_false : (a b : Bool) → a ≡ false → b ≡ false → cond a true b ≡ false
either_false a b x y = rw x y

pub same_or_not : (one other : List ℕ) → (one ≡ other) ⊎ (one ≢ other)
same_or_not one other = by_test (same_key one other) refl
  where
    by_test : (b : Bool) → same_key one other ≡ b → (one ≡ other) ⊎ (one ≢ other)
    by_test true e = inl (alike one other e)
    by_test false e = inr (λ same. let itself = same_itself one in let moved = ap (same_key one) same in cc)

-- a key that is in neither part of a list
pub in_neither : (xs ys : List (List ℕ)) (key : List ℕ) → has_key (xs ++ ys) key ≡ false → (has_key xs key ≡ false) × (has_key ys key ≡ false)
in_neither [] ys key e = (refl, e)
in_neither (x ∷ xs) ys key e =
    let parts = neither (same_key key x) (has_key (xs ++ ys) key) e in
    let rest = in_neither xs ys key parts.1 in
    (either_false (same_key key x) (has_key xs key) parts.0 rest.0, rest.1)

pub not_in : (xs ys : List (List ℕ)) (key : List ℕ) → has_key xs key ≡ false → has_key ys key ≡ false → has_key (xs ++ ys) key ≡ false
not_in [] ys key none rest = rest
not_in (x ∷ xs) ys key none rest =
    let parts = neither (same_key key x) (has_key xs key) none in
    either_false (same_key key x) (has_key (xs ++ ys) key) parts.0 (not_in xs ys key parts.1 rest)

true_or_false : (b : Bool) → (b ≡ true) ⊎ (b ≡ false)
true_or_false true = inl refl
true_or_false false = inr refl

-- a key that is in one part
pub in_left : (xs ys : List (List ℕ)) (key : List ℕ) → has_key xs key ≡ true → has_key (xs ++ ys) key ≡ true
in_left xs ys key e = elim (true_or_false (has_key (xs ++ ys) key)) [
  | inl has ↦ has
  | inr lacks ↦ absurd (let none = (in_neither xs ys key lacks).0 in cc)
]

pub in_right : (xs ys : List (List ℕ)) (key : List ℕ) → has_key ys key ≡ true → has_key (xs ++ ys) key ≡ true
in_right xs ys key e = elim (true_or_false (has_key (xs ++ ys) key)) [
  | inl has ↦ has
  | inr lacks ↦ absurd (let none = (in_neither xs ys key lacks).1 in cc)
]

-- the key at a position
pub has_at : (keys : List (List ℕ)) (p : ℕ) (key d : List ℕ) → p < length keys → get_or keys p d ≡ key → has_key keys key ≡ true
has_at [] p key d lt e = absurd (omega (arith, lt))
has_at (one ∷ keys) zero key d lt e = let same : same_key key one ≡ true = ap (same_key key) e ∙ same_itself key in rw same refl
has_at (one ∷ keys) (suc p) key d lt e = let rest = has_at keys p key d (omega (arith, lt)) e in by_test (same_key key one) rest
  where
    by_test : (b : Bool) → has_key keys key ≡ true → cond b true (has_key keys key) ≡ true
    by_test true rest = refl
    by_test false rest = rest

-- a key that is not in a list differs from one that is
pub other_than : (key other : List ℕ) → has_key (key ∷ []) other ≡ false → other ≢ key
other_than key other e same =
    let apart = (neither (same_key other key) false e).0 in let itself = same_itself other in let moved = ap (same_key other) same in cc

-- why a key is not noted
pub unnoted : (notes : NotedKeys) (table : Table) (key : List ℕ) → is_noted notes table key ≡ false
    → (notes.all ≡ false) × ((has_key notes.keys key ≡ false) × (is_filtered notes.filter table key ≡ false))
unnoted notes table key e =
    let outer = neither notes.all (cond (has_key notes.keys key) true (is_filtered notes.filter table key)) e in
    (outer.0, neither (has_key notes.keys key) (is_filtered notes.filter table key) outer.1)

pub not_noted : (notes : NotedKeys) (table : Table) (key : List ℕ) → notes.all ≡ false → has_key notes.keys key ≡ false → is_filtered notes.filter table key ≡ false
    → is_noted notes table key ≡ false
not_noted notes table key all listed filtered =
    either_false notes.all (cond (has_key notes.keys key) true (is_filtered notes.filter table key)) all
    (either_false (has_key notes.keys key) (is_filtered notes.filter table key) listed filtered)

-- a key was added to the first part
pub noted_left : (all : Bool) (xs ys : List (List ℕ)) (filter : List Bool) (key : List ℕ) (table : Table)
    → NotesKey table (record { all = all; keys = xs ++ ys; filter = filter }) key (record { all = all; keys = (xs ++ key ∷ []) ++ ys; filter = filter })
noted_left all xs ys filter key table other e =
    let why = unnoted (record { all = all; keys = (xs ++ key ∷ []) ++ ys; filter = filter }) table other e in
    let parts = in_neither (xs ++ key ∷ []) ys other why.1.0 in
    let left = in_neither xs (key ∷ []) other parts.0 in
    (not_noted (record { all = all; keys = xs ++ ys; filter = filter }) table other why.0 (not_in xs ys other left.0 parts.1) why.1.1, other_than key other left.1)

-- or to the second
pub noted_right : (all : Bool) (xs ys : List (List ℕ)) (filter : List Bool) (key : List ℕ) (table : Table)
    → NotesKey table (record { all = all; keys = xs ++ ys; filter = filter }) key (record { all = all; keys = xs ++ (ys ++ key ∷ []); filter = filter })
noted_right all xs ys filter key table other e =
    let why = unnoted (record { all = all; keys = xs ++ (ys ++ key ∷ []); filter = filter }) table other e in
    let parts = in_neither xs (ys ++ key ∷ []) other why.1.0 in
    let right = in_neither ys (key ∷ []) other parts.1 in
    (not_noted (record { all = all; keys = xs ++ ys; filter = filter }) table other why.0 (not_in xs ys other parts.0 right.0) why.1.1, other_than key other right.1)

-- a key that is noted already
pub noted_before : (notes : NotedKeys) (key : List ℕ) (table : Table) → has_key notes.keys key ≡ true → NotesKey table notes key notes
noted_before notes key table has other e =
    (e, λ same. let listed = (unnoted notes table other e).1.0 in let moved = ap (has_key notes.keys) same in cc)

-- all keys are noted
pub noted_by_all : (old new : NotedKeys) (key : List ℕ) (table : Table) → new.all ≡ true → NotesKey table old key new
noted_by_all old new key table all other e = absurd (let no = (unnoted new table other e).0 in cc)

pub kept_by_all : (old new : NotedKeys) (table : Table) → new.all ≡ true → KeepsNoted table old new
kept_by_all old new table all key e = absurd (let no = (unnoted new table key e).0 in cc)

-- if the filter was off, any other one keeps what was noted
pub kept_by_filter : (old new : NotedKeys) (table : Table) → new.all ≡ old.all → new.keys ≡ old.keys → old.filter ≡ [] → KeepsNoted table old new
kept_by_filter old new table all keys off key e =
    let why = unnoted new table key e in
    not_noted old table key (sym all ∙ why.0) (ap (λ (ks : List (List ℕ)). has_key ks key) (sym keys) ∙ why.1.0) (ap (λ (f : List Bool). is_filtered f table key) off)

-- a key was noted after others were kept
pub kept_then_noted : (old between new : NotedKeys) (key : List ℕ) (table : Table) → KeepsNoted table old between → NotesKey table between key new → NotesKey table old key new
kept_then_noted old between new key table kept notes other e = let known = notes other e in (kept other known.0, known.1)

pub filtered_there : (filter : List Bool) (table : Table) (key : List ℕ) → may_have filter key ≡ true → has_entry table key ≡ true → is_filtered filter table key ≡ true
filtered_there filter table key has there = rw has there

not_filtered : (before after : Bool) (there : Bool) → (after ≡ false → before ≡ false) → cond after there false ≡ false → cond before there false ≡ false
not_filtered false after there more e = refl
not_filtered true true there more e = e
not_filtered true false there more e = absurd (let no = more refl in cc)

-- a key with an entry was added to the filter
pub noted_by_filter : (old new : NotedKeys) (key : List ℕ) (table : Table) → new.all ≡ old.all → new.keys ≡ old.keys → may_have new.filter key ≡ true
    → ((other : List ℕ) → may_have new.filter other ≡ false → may_have old.filter other ≡ false) → has_entry table key ≡ true → NotesKey table old key new
noted_by_filter old new key table all keys has others there other e =
    let why = unnoted new table other e in (
      not_noted old table other (sym all ∙ why.0) (ap (λ (ks : List (List ℕ)). has_key ks other) (sym keys) ∙ why.1.0)
          (not_filtered (may_have old.filter other) (may_have new.filter other) (has_entry table other) (others other) why.1.1),
      λ same. let yes = filtered_there new.filter table key has there in let moved = ap (is_filtered new.filter table) same in let no = why.1.1 in cc,
    )

pub same_bytes : (xs ys : List ℕ) → bytes_eq xs ys ≡ true → xs ≡ ys
same_bytes xs ys e = alike xs ys (is_eq-slice_cmp xs ys ∙ e)

-- a list with its last element apart
split_at : (keys : List (List ℕ)) (p : ℕ) (key : List ℕ) → length keys ≡ suc p → key ≡ get_or keys p key → (front : List (List ℕ)) × (keys ≡ front ++ key ∷ [])
split_at [] p key many e = absurd (omega (arith, many))
split_at (one ∷ []) zero key many e = ([], ap (λ (k : List ℕ). k ∷ []) (sym e))
split_at (one ∷ other ∷ keys) zero key many e = absurd (omega (arith, many))
split_at (one ∷ keys) (suc p) key many e = let rest = split_at keys p key (omega (arith, many)) e in (one ∷ rest.0, ap (λ (ks : List (List ℕ)). one ∷ ks) rest.1)

pub last_apart : (short long : List (List ℕ)) (key : List ℕ) → 0 < length long → key ≡ get_or long (length long - 1) key
    → (rest : List (List ℕ)) × (short ++ long ≡ rest ++ key ∷ [])
last_apart short long key some e =
    let split = split_at long (length long - 1) key (omega (arith, some)) e in
    (short ++ split.0, ap (λ (ks : List (List ℕ)). short ++ ks) split.1 ∙ sym (append_assoc short split.0 (key ∷ [])))
