-- The changes that bytes spell.
use Rattle.std.proofs.Common.{◌≡◌, ◌∙◌, ◌+◌, ◌<◌, ◌≤◌, ◌^◌, ℕ, zero, suc, List, [], ◌∷◌, ◌++◌, length, length-append, get_or, take, drop, Option, Some, None, Result, Ok, Err, IfErr, ◌⊎◌, inl, inr, refl, sym, ap, subst, append_assoc, arith}
use Rattle.std.specs.List.{All}
use Rattle.std.specs.Int.{w32, w64, to_le_bytes, from_le_bytes}
use Rattle.std.proofs.lemmas.List.{append-nil, take-append-drop}
use Rattle.std.proofs.lemmas.List.Elements.{All-head, All-tail}
use Rattle.std.proofs.lemmas.Nat.{le_bytes_4, le_bytes_8, from_le_bytes-to_le_bytes_4, from_le_bytes-to_le_bytes_8}
use Rattle.bpf_model.specs.declared.limits.TheConstants.{KEY_BYTES, VALUE_BYTES}
use Rattle.kept_file.specs.declared.fault.KeepFault.{KeepFault}
use Rattle.kept_file.specs.declared.fault.KeepFault.TheVariants.{Damaged, TooLong}
use Rattle.kept_file.specs.Changes.{BeginsWithLongEntry, BeginsWithNoEntry, BeginsWithNone, BeginsWithTooLong, Change, Entry, IsWithin, Spells, mark_byte, deadline_bytes, entry_bytes, change_bytes, changes_bytes}

pub spells_all : (changes : List Change) → All IsWithin changes → Spells (changes_bytes changes) changes
unfolding Spells
spells_all [] all = refl
spells_all (change ∷ changes) all =
    (changes_bytes changes, refl, All-head IsWithin change changes all, spells_all changes (All-tail IsWithin change changes all))

pub changes_bytes-append : (xs ys : List Change) → changes_bytes (xs ++ ys) ≡ changes_bytes xs ++ changes_bytes ys
changes_bytes-append [] ys = refl
changes_bytes-append (x ∷ xs) ys =
    ap (λ (l : List ℕ). change_bytes x ++ l) (changes_bytes-append xs ys) ∙ sym (append_assoc (change_bytes x) (changes_bytes xs) (changes_bytes ys))

pub changes_bytes-more : (xs : List Change) (x : Change) → changes_bytes (xs ++ x ∷ []) ≡ changes_bytes xs ++ change_bytes x
changes_bytes-more xs x = changes_bytes-append xs (x ∷ []) ∙ ap (λ (l : List ℕ). changes_bytes xs ++ l) (append-nil (change_bytes x))

pub changes_bytes-none : (changes : List Change) → changes_bytes changes ≡ [] → changes ≡ []
changes_bytes-none [] none = refl
changes_bytes-none (x ∷ xs) none = absurd cc

-- ---- numbers read from bytes

taken_low : (n : ℕ) (bytes : List ℕ) → ((i : ℕ) → get_or bytes i 0 < 256) → (i : ℕ) → get_or (take n bytes) i 0 < 256
taken_low zero bytes low i = omega arith
taken_low (suc n) [] low i = omega arith
taken_low (suc n) (b ∷ bytes) low zero = low 0
taken_low (suc n) (b ∷ bytes) low (suc i) = taken_low n bytes (λ j. low (suc j)) i

pub reads_32 : (bytes first rest : List ℕ) (n : ℕ) → first ≡ take 4 bytes → rest ≡ drop 4 bytes → length rest + 4 ≡ length bytes
    → ((i : ℕ) → get_or bytes i 0 < 256) → n ≡ from_le_bytes w32 first → bytes ≡ to_le_bytes w32 n ++ rest
reads_32 bytes first rest n p q long low is =
    let low_first : (i : ℕ) → get_or first i 0 < 256 = subst (λ (l : List ℕ). (i : ℕ) → get_or l i 0 < 256) (sym p) (taken_low 4 bytes low) in
    let whole : first ++ rest ≡ bytes = rw (p, q) (take-append-drop 4 bytes) in
    let as_long : length first ≡ 4 = omega (arith, length-append first rest, ap length whole) in
    sym (ap (λ (l : List ℕ). l ++ rest) (le_bytes_4 first n as_long low_first is) ∙ whole)

pub reads_64 : (bytes first rest : List ℕ) (n : ℕ) → first ≡ take 8 bytes → rest ≡ drop 8 bytes → length rest + 8 ≡ length bytes
    → ((i : ℕ) → get_or bytes i 0 < 256) → n ≡ from_le_bytes w64 first → bytes ≡ to_le_bytes w64 n ++ rest
reads_64 bytes first rest n p q long low is =
    let low_first : (i : ℕ) → get_or first i 0 < 256 = subst (λ (l : List ℕ). (i : ℕ) → get_or l i 0 < 256) (sym p) (taken_low 8 bytes low) in
    let whole : first ++ rest ≡ bytes = rw (p, q) (take-append-drop 8 bytes) in
    let as_long : length first ≡ 8 = omega (arith, length-append first rest, ap length whole) in
    sym (ap (λ (l : List ℕ). l ++ rest) (le_bytes_8 first n as_long low_first is) ∙ whole)

-- ---- bytes spell one list of changes alone

split_once : (a b r s : List ℕ) → length a ≡ length b → a ++ r ≡ b ++ s → (a ≡ b) × (r ≡ s)
split_once [] [] r s long same = (refl, same)
split_once [] (y ∷ b) r s long same = absurd (omega arith)
split_once (x ∷ a) [] r s long same = absurd (omega arith)
split_once (x ∷ a) (y ∷ b) r s long same =
    let head : x ≡ y = cc in
    let rest : a ++ r ≡ b ++ s = cc in
    let both = split_once a b r s (omega arith) rest in
    (λ i. head i ∷ both.0 i, both.1)

number_once_32 : (m n : ℕ) (r s : List ℕ) → m < 2 ^ 32 → n < 2 ^ 32 → to_le_bytes w32 m ++ r ≡ to_le_bytes w32 n ++ s → (m ≡ n) × (r ≡ s)
number_once_32 m n r s low also same =
    let both = split_once (to_le_bytes w32 m) (to_le_bytes w32 n) r s refl same in
    (sym (from_le_bytes-to_le_bytes_4 m low) ∙ ap (from_le_bytes w32) both.0 ∙ from_le_bytes-to_le_bytes_4 n also, both.1)

number_once_64 : (m n : ℕ) (r s : List ℕ) → m < 2 ^ 64 → n < 2 ^ 64 → to_le_bytes w64 m ++ r ≡ to_le_bytes w64 n ++ s → (m ≡ n) × (r ≡ s)
number_once_64 m n r s low also same =
    let both = split_once (to_le_bytes w64 m) (to_le_bytes w64 n) r s refl same in
    (sym (from_le_bytes-to_le_bytes_8 m low) ∙ ap (from_le_bytes w64) both.0 ∙ from_le_bytes-to_le_bytes_8 n also, both.1)

value_once : (a b r s : List ℕ) → length a ≤ VALUE_BYTES → length b ≤ VALUE_BYTES → (to_le_bytes w32 (length a) ++ a) ++ r ≡ (to_le_bytes w32 (length b) ++ b) ++ s
    → (a ≡ b) × (r ≡ s)
value_once a b r s low also same =
    let long = number_once_32 (length a) (length b) (a ++ r) (b ++ s) (omega arith) (omega arith) same in
    split_once a b r s long.0 long.1

entry_once : (key : List ℕ) (a b : Entry) (r s : List ℕ) → IsWithin (key, a) → IsWithin (key, b) → mark_byte a ≡ mark_byte b → entry_bytes a ++ r ≡ entry_bytes b ++ s
    → (a ≡ b) × (r ≡ s)
entry_once key None None r s low also mark same = (refl, same)
entry_once key (Some (v, None)) (Some (w, None)) r s low also mark same =
    let both = value_once v w r s low.value also.value same in
    (λ i. Some (both.0 i, None), both.1)
entry_once key (Some (v, Some m)) (Some (w, Some n)) r s low also mark same =
    let time = number_once_64 m n ((to_le_bytes w32 (length v) ++ v) ++ r) ((to_le_bytes w32 (length w) ++ w) ++ s) low.deadline also.deadline same in
    let both = value_once v w r s low.value also.value time.1 in
    (λ i. Some (both.0 i, Some (time.0 i)), both.1)
entry_once key None (Some (w, None)) r s low also mark same = absurd (omega arith)
entry_once key None (Some (w, Some n)) r s low also mark same = absurd (omega arith)
entry_once key (Some (v, None)) None r s low also mark same = absurd (omega arith)
entry_once key (Some (v, None)) (Some (w, Some n)) r s low also mark same = absurd (omega arith)
entry_once key (Some (v, Some m)) None r s low also mark same = absurd (omega arith)
entry_once key (Some (v, Some m)) (Some (w, None)) r s low also mark same = absurd (omega arith)

change_once : (a b : Change) (r s : List ℕ) → IsWithin a → IsWithin b → change_bytes a ++ r ≡ change_bytes b ++ s → (a ≡ b) × (r ≡ s)
change_once a b r s low also same =
    let long : length a.0 ≡ length b.0 = cc in
    let mark : mark_byte a.1 ≡ mark_byte b.1 = cc in
    let rest : (a.0 ++ entry_bytes a.1) ++ r ≡ (b.0 ++ entry_bytes b.1) ++ s = cc in
    let key = split_once a.0 b.0 (entry_bytes a.1 ++ r) (entry_bytes b.1 ++ s) long
    (sym (append_assoc a.0 (entry_bytes a.1) r) ∙ rest ∙ append_assoc b.0 (entry_bytes b.1) s) in
    let entry = entry_once a.0 a.1 b.1 r s low (record { key = low.key; value = also.value; deadline = also.deadline }) mark key.1 in
    (λ i. (key.0 i, entry.0 i), entry.1)

-- what comes after the key begins with nothing that may come there
none_after_key : (bytes key rest : List ℕ) (mark : ℕ) → bytes ≡ length key ∷ mark ∷ (key ++ rest) → BeginsWithNoEntry mark rest → BeginsWithNone bytes
none_after_key bytes key rest mark is none change more within same =
    let both : length key ∷ mark ∷ (key ++ rest) ≡ change_bytes change ++ more = sym is ∙ same in
    let long : length key ≡ length change.0 = cc in
    let mark_is : mark ≡ mark_byte change.1 = cc in
    let tail : key ++ rest ≡ (change.0 ++ entry_bytes change.1) ++ more = cc in
    let split = split_once key change.0 rest (entry_bytes change.1 ++ more) long (tail ∙ append_assoc change.0 (entry_bytes change.1) more) in
    none change more within mark_is split.1

-- .. so reading it failed
pub none_of_entry : {A : Type 0} (bytes key rest : List ℕ) (mark : ℕ) (result : Result A KeepFault) → bytes ≡ length key ∷ mark ∷ (key ++ rest)
    → IfErr result (λ fault. BeginsWithNoEntry mark rest × ((fault ≡ Damaged) ⊎ (fault ≡ TooLong)))
    → IfErr result (λ fault. BeginsWithNone bytes × ((fault ≡ Damaged) ⊎ (fault ≡ TooLong)))
none_of_entry bytes key rest mark (Ok _) is none = tt
none_of_entry bytes key rest mark (Err fault) is none = (none_after_key bytes key rest mark is none.0, none.1)

-- what comes after a deadline is the same, however the deadline is read
pub after_deadline : (rest after : List ℕ) (at : ℕ) (deadline : Option ℕ) → 2 ≡ mark_byte (Some ([], deadline)) → to_le_bytes w64 at ++ rest ≡ deadline_bytes deadline ++ after → rest ≡ after
after_deadline rest after at None mark same = absurd (omega arith)
after_deadline rest after at (Some other) mark same = (split_once (to_le_bytes w64 at) (to_le_bytes w64 other) rest after refl same).1

-- a change whose key is no longer than it may be is too long if what comes after the key is
pub too_long_once : (bytes key rest : List ℕ) (mark : ℕ) → bytes ≡ length key ∷ mark ∷ (key ++ rest) → length key ≤ KEY_BYTES
    → (BeginsWithLongEntry mark rest → BeginsWithTooLong bytes) × (BeginsWithTooLong bytes → BeginsWithLongEntry mark rest)
too_long_once bytes key rest mark is low = (
  λ long. (length key, mark, key ++ rest, is, inr (key, rest, refl, refl, long)),
  λ long.
      let same : length key ∷ mark ∷ (key ++ rest) ≡ long.0 ∷ long.1 ∷ long.2 = sym is ∙ long.3 in
      let count : length key ≡ long.0 = cc in
      let mark_is : mark ≡ long.1 = cc in
      let tail : key ++ rest ≡ long.2 = cc in
      elim long.4 [
        | inl high ↦ absurd (omega arith)
        | inr found ↦
            let split = split_once key found.0 rest found.1 (count ∙ sym found.2) (tail ∙ found.3) in
            subst (λ (m : ℕ). BeginsWithLongEntry m rest) (sym mark_is) (subst (BeginsWithLongEntry long.1) (sym split.1) found.4)
      ],
)

pub spells_once : (bytes : List ℕ) (xs ys : List Change) → Spells bytes xs → Spells bytes ys → xs ≡ ys
unfolding Spells
spells_once bytes [] [] p q = refl
spells_once bytes [] (y ∷ ys) p q = absurd (let none : [] ≡ change_bytes y ++ q.0 = sym p ∙ q.1 in cc)
spells_once bytes (x ∷ xs) [] p q = absurd (let none : [] ≡ change_bytes x ++ p.0 = sym q ∙ p.1 in cc)
spells_once bytes (x ∷ xs) (y ∷ ys) p q =
    let first = change_once x y p.0 q.0 p.2 q.2 (sym p.1 ∙ q.1) in
    let more = spells_once q.0 xs ys (subst (λ (rest : List ℕ). Spells rest xs) first.1 p.3) q.3 in
    λ i. first.0 i ∷ more i
