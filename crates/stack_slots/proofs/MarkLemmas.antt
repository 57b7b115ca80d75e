-- Marks in words of bits.
use Rattle.std.proofs.Common.{◌≡◌, ◌≢◌, ℕ, ◌+◌, ◌-◌, ◌*◌, ◌/◌, ◌%◌, ◌^◌, ◌<◌, ◌≤◌, Bool, true, false, not, ◌&&◌, ◌||◌, List, length, get_or, set, refl, sym, ap, ◌∙◌, inl, inr, arith, min, max, bit_and, bit_or, w64, replicate, zero, suc}
use Rattle.std.specs.Prelude.{nat_eq, nat_lt, nat_le}
use Rattle.std.specs.Int.{bit_at, bit_not, trailing_ones, trailing_zeros}
use Rattle.std.proofs.lemmas.Bool.{cases_lt, cases_eq, and_parts, and_from, leb-true, ltb-true, le-leb, lt-ltb, not-true, not-false}
use Rattle.std.proofs.lemmas.Nat.{and_le_l}
use Rattle.std.proofs.lemmas.Bool.Decides.{nat_tests}
use Rattle.std.proofs.lemmas.List.{get_or-set_other}
use Rattle.std.proofs.lemmas.Grind.{get_or-set_at}
use Rattle.std.proofs.Math.ListN.{get_or-eq_default}
use Rattle.std.proofs.lemmas.Nat.Bits.{bit_at_and, bit_at_or, bit_at_not, bit_at-lt, bit_at_ones, bit_at_ones_above, bit_at-zero, bit_at-trailing_ones, bit_at-trailing_zeros}
use Rattle.stack_slots.specs.Marks.{is_marked}

-- whether the bit is set
abbrev pub bit : ℕ → ℕ → Bool
bit n k = nat_eq (bit_at n k) 1

both_ones : (x y : ℕ) → x < 2 → y < 2 → nat_eq (min x y) 1 ≡ (nat_eq x 1 && nat_eq y 1)
both_ones x y p q = grind (arith, nat_tests)

one_of : (x y : ℕ) → x < 2 → y < 2 → nat_eq (max x y) 1 ≡ (nat_eq x 1 || nat_eq y 1)
one_of x y p q = grind (arith, nat_tests)

turned : (x : ℕ) → x < 2 → nat_eq (1 - x) 1 ≡ not (nat_eq x 1)
turned x p = grind (arith, nat_tests)

pub bit-and : (a b k : ℕ) → bit (bit_and a b) k ≡ (bit a k && bit b k)
bit-and a b k = rw (bit_at_and a b k) (both_ones (bit_at a k) (bit_at b k) (bit_at-lt a k) (bit_at-lt b k))

pub bit-or : (a b k : ℕ) → bit (bit_or a b) k ≡ (bit a k || bit b k)
bit-or a b k = rw (bit_at_or a b k) (one_of (bit_at a k) (bit_at b k) (bit_at-lt a k) (bit_at-lt b k))

pub bit-not : (n k : ℕ) → n < 2 ^ 64 → k < 64 → bit (bit_not w64 n) k ≡ not (bit n k)
bit-not n k small below = rw (bit_at_not w64 n k small below) (turned (bit_at n k) (bit_at-lt n k))

-- the n lowest bits
pub bit-lowest : (n k : ℕ) → bit (2 ^ n - 1) k ≡ nat_lt k n
bit-lowest n k =
    elim (cases_lt k n) [
      | inl lt ↦ rw (bit_at_ones n k lt) (grind (arith, nat_tests))
      | inr le ↦ rw (bit_at_ones_above n k le) (grind (arith, nat_tests))
    ]

-- a word with no bit set is zero
pub bit_somewhere : (n : ℕ) → 0 < n → n < 2 ^ 64 → (k : ℕ) × ((k < 64) × (bit n k ≡ true))
bit_somewhere n some small =
    let first = bit_at-trailing_zeros w64 n some small in
    (trailing_zeros w64 n, (first.0, rw first.1 refl))

-- a place is a word and a bit of it
pub marked_by : (words : List ℕ) (i j k : ℕ) → i ≡ 64 * j + k → k < 64 → is_marked words i ≡ bit (get_or words j 0) k
unfolding is_marked
marked_by words i j k is below =
    let word : i / 64 ≡ j = omega arith in
    let place : i % 64 ≡ k = omega arith in
    rw (word, place) refl

-- no mark is past the last word
pub none_past : (words : List ℕ) (i : ℕ) → 64 * length words ≤ i → is_marked words i ≡ false
unfolding is_marked
none_past words i past =
    let none : get_or words (i / 64) 0 ≡ 0 = get_or-eq_default words 0 (omega (arith, past)) in
    rw (none, bit_at-zero (i % 64)) refl

-- words of zeros have no mark
get_or-zeros : (n k : ℕ) → ◌≡◌ {A = ℕ} (get_or (replicate n 0) k 0) 0
get_or-zeros zero k = refl
get_or-zeros (suc n) zero = refl
get_or-zeros (suc n) (suc k) = get_or-zeros n k

pub none_in_zeros : (n i : ℕ) → is_marked (replicate n 0) i ≡ false
unfolding is_marked
none_in_zeros n i = rw (get_or-zeros n (i / 64), bit_at-zero (i % 64)) refl

-- a word is replaced
pub marked-set_same : (words : List ℕ) (j v i : ℕ) → j < length words → i / 64 ≡ j → is_marked (set words j v) i ≡ bit v (i % 64)
unfolding is_marked
marked-set_same words j v i inside is = rw (get_or-set_at words j (i / 64) v 0 is inside) refl

pub marked-set_other : (words : List ℕ) (j v i : ℕ) → (i / 64 ≢ j) → is_marked (set words j v) i ≡ is_marked words i
unfolding is_marked
marked-set_other words j v i other = rw (get_or-set_other words j (i / 64) v 0 other) refl

-- the bits of a word without those of a second one
pub bit-without : (a b k : ℕ) → b < 2 ^ 64 → k < 64 → bit (bit_and a (bit_not w64 b)) k ≡ (bit a k && not (bit b k))
bit-without a b k small below = bit-and a (bit_not w64 b) k ∙ ap (λ (t : Bool). bit a k && t) (bit-not b k small below)

-- a word in which the places from first to end are set too
pub mark_step : (words : List ℕ) (first end j v : ℕ) (before : ℕ → Bool) → j < length words → ((k : ℕ) → k < 64 → bit v k ≡ (nat_le first (64 * j + k) && nat_lt (64 * j + k) end))
    → ((i : ℕ) → is_marked words i ≡ (((nat_le first i && nat_lt i end) && nat_lt (i / 64) j) || before i))
    → (i : ℕ) → is_marked (set words j (bit_or (get_or words j 0) v)) i ≡ (((nat_le first i && nat_lt i end) && nat_lt (i / 64) (j + 1)) || before i)
mark_step words first end j v before inside bits marks i =
    elim (cases_eq (i / 64) j) [
      | inl here ↦
          let place : 64 * j + i % 64 ≡ i = omega (arith, here) in
          let below : i % 64 < 64 = omega arith in
          let not_yet : nat_lt (i / 64) j ≡ false = grind (arith, nat_tests, here) in
          let now : nat_lt (i / 64) (j + 1) ≡ true = grind (arith, nat_tests, here) in
          let new : bit v (i % 64) ≡ (nat_le first i && nat_lt i end) = bits (i % 64) below ∙ ap (λ (k : ℕ). nat_le first k && nat_lt k end) place in
          let old : bit (get_or words j 0) (i % 64) ≡ (((nat_le first i && nat_lt i end) && false) || before i) =
          sym (marked_by words i j (i % 64) (sym place) below) ∙ marks i ∙ ap (λ (t : Bool). ((nat_le first i && nat_lt i end) && t) || before i) not_yet in
          marked-set_same words j (bit_or (get_or words j 0) v) i inside here
          ∙ bit-or (get_or words j 0) v (i % 64)
          ∙ ap (λ (t : Bool). t || bit v (i % 64)) old
          ∙ ap (λ (t : Bool). (((nat_le first i && nat_lt i end) && false) || before i) || t) new
          ∙ swapped (nat_le first i && nat_lt i end) (before i)
          ∙ ap (λ (t : Bool). ((nat_le first i && nat_lt i end) && t) || before i) (sym now)
      | inr other ↦
          let same : nat_lt (i / 64) j ≡ nat_lt (i / 64) (j + 1) = grind (arith, nat_tests, other) in
          marked-set_other words j (bit_or (get_or words j 0) v) i other
          ∙ marks i
          ∙ ap (λ (t : Bool). ((nat_le first i && nat_lt i end) && t) || before i) same
    ]
  where
    swapped : (r s : Bool) → (((r && false) || s) || r) ≡ ((r && true) || s)
    swapped true true = refl
    swapped true false = refl
    swapped false true = refl
    swapped false false = refl

-- a word that keeps only the common bits
pub marked-common : (words other : List ℕ) (j i : ℕ) → j < length words → i / 64 ≡ j → is_marked (set words j (bit_and (get_or words j 0) (get_or other j 0))) i ≡ (is_marked words i && is_marked other i)
marked-common words other j i inside here =
    let place : i ≡ 64 * j + i % 64 = omega (arith, here) in
    let below : i % 64 < 64 = omega arith in
    marked-set_same words j (bit_and (get_or words j 0) (get_or other j 0)) i inside here
    ∙ bit-and (get_or words j 0) (get_or other j 0) (i % 64)
    ∙ ap (λ (t : Bool). t && bit (get_or other j 0) (i % 64)) (sym (marked_by words i j (i % 64) place below))
    ∙ ap (λ (t : Bool). is_marked words i && t) (sym (marked_by other i j (i % 64) place below))

-- if a word lacks one of the bits that mark the places from first to end, one of these places isn't marked
pub gap_somewhere : (words : List ℕ) (first end j v : ℕ) → v < 2 ^ 64 → get_or words j 0 < 2 ^ 64 → ((k : ℕ) → k < 64 → bit v k ≡ (nat_le first (64 * j + k) && nat_lt (64 * j + k) end))
    → 0 < bit_and v (bit_not w64 (get_or words j 0)) → (i : ℕ) × ((first ≤ i) × ((i < end) × (is_marked words i ≡ false)))
gap_somewhere words first end j v small word bits some =
    let found = bit_somewhere (bit_and v (bit_not w64 (get_or words j 0))) some (omega (arith, small, and_le_l v (bit_not w64 (get_or words j 0)))) in
    let k = found.0 in
    let parts = and_parts (bit v k) (not (bit (get_or words j 0) k)) (sym (bit-without v (get_or words j 0) k word found.1.0) ∙ found.1.1) in
    let range = and_parts (nat_le first (64 * j + k)) (nat_lt (64 * j + k) end) (sym (bits k found.1.0) ∙ parts.0) in
    (64 * j + k, (leb-true first (64 * j + k) range.0, (ltb-true (64 * j + k) end range.1, marked_by words (64 * j + k) j k refl found.1.0 ∙ not-true (bit (get_or words j 0) k) parts.1)))

-- if it lacks none, all of them are
pub no_gap : (words : List ℕ) (first end j v : ℕ) → get_or words j 0 < 2 ^ 64 → ((k : ℕ) → k < 64 → bit v k ≡ (nat_le first (64 * j + k) && nat_lt (64 * j + k) end))
    → bit_and v (bit_not w64 (get_or words j 0)) ≡ 0 → (i : ℕ) → first ≤ i → i < end → i / 64 ≡ j → is_marked words i ≡ true
no_gap words first end j v word bits none i low high here =
    let place : 64 * j + i % 64 ≡ i = omega (arith, here) in
    let below : i % 64 < 64 = omega arith in
    let set : bit v (i % 64) ≡ true = bits (i % 64) below ∙ ap (λ (k : ℕ). nat_le first k && nat_lt k end) place ∙ and_from (nat_le first i) (nat_lt i end) (le-leb first i low) (lt-ltb i end high) in
    let zero_bit : bit (bit_and v (bit_not w64 (get_or words j 0))) (i % 64) ≡ false = rw (none, bit_at-zero (i % 64)) refl in
    let lacks : (bit v (i % 64) && not (bit (get_or words j 0) (i % 64))) ≡ false = sym (bit-without v (get_or words j 0) (i % 64) word below) ∙ zero_bit in
    let has : not (bit (get_or words j 0) (i % 64)) ≡ false = rw set at lacks in
    marked_by words i j (i % 64) (sym place) below ∙ not-false (bit (get_or words j 0) (i % 64)) has

-- a word with all bits set
pub all_marked : (words : List ℕ) (j i : ℕ) → get_or words j 0 ≡ 2 ^ 64 - 1 → i / 64 ≡ j → is_marked words i ≡ true
all_marked words j i full here =
    let place : i ≡ 64 * j + i % 64 = omega (arith, here) in
    let below : i % 64 < 64 = omega arith in
    marked_by words i j (i % 64) place below ∙ (rw (full, bit_at_ones 64 (i % 64) below) refl)

-- the lowest set bits of a word that lacks one
pub marked_up_to : (words : List ℕ) (j k : ℕ) → get_or words j 0 + 1 < 2 ^ 64 → k < trailing_ones w64 (get_or words j 0) → is_marked words (64 * j + k) ≡ true
marked_up_to words j k small below =
    let ones = bit_at-trailing_ones w64 (get_or words j 0) small in
    marked_by words (64 * j + k) j k refl (omega (arith, ones.0, below)) ∙ (rw (ones.2 k below) refl)

pub gap_after : (words : List ℕ) (j : ℕ) → get_or words j 0 + 1 < 2 ^ 64 → is_marked words (64 * j + trailing_ones w64 (get_or words j 0)) ≡ false
gap_after words j small =
    let ones = bit_at-trailing_ones w64 (get_or words j 0) small in
    marked_by words (64 * j + trailing_ones w64 (get_or words j 0)) j (trailing_ones w64 (get_or words j 0)) refl ones.0 ∙ (rw ones.1 refl)
