-- Frames and the memories that they describe.
use Rattle.std.proofs.Common.{◌≡◌, ◌≢◌, ℕ, zero, suc, ◌+◌, ◌-◌, ◌*◌, ◌/◌, ◌^◌, ◌<◌, ◌≤◌, ◌⊎◌, Bool, true, false, cond, List, [], ◌∷◌, length, Option, Some, None, get_or, refl, sym, ap, subst, ◌∙◌, arith, rules, inl, inr}
use Rattle.std.specs.Prelude.{IsSome, nat_eq, nat_le, nat_lt, ◌&&◌}
use Rattle.std.specs.Option.{option_map}
use Rattle.std.proofs.lemmas.Bool.{cases_Bool, and_parts, and_cases, or_cases, eqb-true, ltb-false}
use Rattle.std.proofs.lemmas.Bool.Decides.{nat_tests}
use Rattle.std.proofs.Math.ListN.{get_or-eq_default}
use Rattle.std.proofs.Math.Nat.{pow-succ'}
use Rattle.bpf_model.specs.declared.window.Window.{Window}
use Rattle.bpf_model.specs.declared.window.Window.TheVariants.{Key, Old, Arg, Result, Stack}
use Rattle.bpf_model.specs.declared.accesses.AccessSize.{AccessSize}
use Rattle.bpf_model.specs.declared.accesses.AccessSize.TheVariants.{Byte, HalfWord, Word, DoubleWord}
use Rattle.bpf_model.specs.Words.{IsWord, word_of, bytes_of}
use Rattle.bpf_model.specs.Accesses.{byte_count}
use Rattle.bpf_model.specs.Memory.{Partial, first_address, bytes_at, with_bytes}
use Rattle.bpf_model.proofs.Options.{test_of, value_there, chosen}
use Rattle.bpf_model.proofs.MemoryLemmas.{bytes_present, byte_read, length-bytes_at}
use Rattle.bpf_model.proofs.WordLemmas.{word_of-bound, length-bytes_of}
use Rattle.value_ranges.specs.declared.range.Range.{Range}
use Rattle.value_ranges.specs.In.{IsIn}
use Rattle.stack_slots.specs.declared.access.Access.{Access}
use Rattle.stack_slots.specs.declared.frame.Frame.{Frame}
use Rattle.stack_slots.specs.declared.reg_value.RegValue.{RegValue}
use Rattle.stack_slots.specs.declared.reg_value.RegValue.TheVariants.{Unwritten, Number}
use Rattle.stack_slots.specs.Kept.{kept_bytes}
use Rattle.stack_slots.specs.Values.{StandsFor, IsJoin}
use Rattle.stack_slots.specs.Accesses.{MayBeAt, touches, is_stack, touches_slot, fills_slot, loaded_word, HasBytes, ReadsAs}
use Rattle.stack_slots.specs.Frames.{is_written, spilled_in, slot_word, DescribesMemory, NoneUnwritten, AreWritten, Marks, Spills, DescribesStore, MeetsMarks, IsSlotJoin, JoinsSlots, DescribesMore}
use Rattle.stack_slots.proofs.PointerLemmas.{stands_word}
use Rattle.stack_slots.proofs.ValueLemmas.{join_first, join_second, join_value}

-- an access has bytes
pub byte_count-some : (size : AccessSize) → 0 < byte_count size
byte_count-some Byte = omega arith
byte_count-some HalfWord = omega arith
byte_count-some Word = omega arith
byte_count-some DoubleWord = omega arith

-- written bytes are present, and elsewhere the memory doesn't change
with_bytes-inside : (memory : Partial) (a : ℕ) (bs : List ℕ) (q : ℕ) → a ≤ q → q < a + length bs → with_bytes memory a bs q ≡ Some (get_or bs (q - a) 0)
with_bytes-inside memory a bs q low high = let inside : (nat_le a q && nat_lt q (a + length bs)) ≡ true = grind (arith, nat_tests) in rw inside refl

with_bytes-outside : (memory : Partial) (a : ℕ) (bs : List ℕ) (q : ℕ) → ((q < a) ⊎ (a + length bs ≤ q)) → with_bytes memory a bs q ≡ memory q
with_bytes-outside memory a bs q side = let outside : (nat_le a q && nat_lt q (a + length bs)) ≡ false = not_inside a q (a + length bs) side in rw outside refl
  where
    not_inside : (a q end : ℕ) → ((q < a) ⊎ (end ≤ q)) → (nat_le a q && nat_lt q end) ≡ false
    not_inside a q end (inl lt) = grind (arith, nat_tests)
    not_inside a q end (inr le) = grind (arith, nat_tests)

-- a byte that is written, or was present, is present after a write
pub with_bytes-present : (memory : Partial) (a : ℕ) (bs : List ℕ) (q : ℕ) → (((a ≤ q) × (q < a + length bs)) ⊎ IsSome (memory q)) → IsSome (with_bytes memory a bs q)
with_bytes-present memory a bs q h =
    elim (test_of (nat_le a q && nat_lt q (a + length bs))) [
      | inl t ↦ rw t (search rules)
      | inr t ↦ rw t (elim h [ inl within ↦ absurd (grind (arith, nat_tests, t, within)) | inr there ↦ there ])
    ]

-- bytes that are present, one by one, are read
bytes_at-each : (memory : Partial) (a : ℕ) (bs : List ℕ) → ((i : ℕ) → i < length bs → memory (a + i) ≡ Some (get_or bs i 0)) → bytes_at memory a (length bs) ≡ Some bs
unfolding bytes_at
bytes_at-each memory a [] each = refl
bytes_at-each memory a (b ∷ bs) each =
    let here : a + 0 ≡ a = omega arith in
    let first : memory a ≡ Some b = rw here at (each 0 (omega arith)) in
    let rest : bytes_at memory (suc a) (length bs) ≡ Some bs = bytes_at-each memory (suc a) bs (λ i below. let there : a + suc i ≡ suc a + i = omega arith in rw there at (each (suc i) (omega arith))) in
    rw (first, rest) refl

-- a write is read back
bytes_at-written : (memory : Partial) (a : ℕ) (bs : List ℕ) → bytes_at (with_bytes memory a bs) a (length bs) ≡ Some bs
bytes_at-written memory a bs = bytes_at-each (with_bytes memory a bs) a bs (λ i below.
    let back : a + i - a ≡ i = omega arith in
    with_bytes-inside memory a bs (a + i) (omega arith) (omega arith) ∙ ap (λ (k : ℕ). Some (get_or bs k 0)) back)

-- memories that agree on some bytes read alike there
bytes_at-agree : (m m' : Partial) (a n : ℕ) → ((i : ℕ) → i < n → m' (a + i) ≡ m (a + i)) → bytes_at m' a n ≡ bytes_at m a n
unfolding bytes_at
bytes_at-agree m m' a zero same = refl
bytes_at-agree m m' a (suc n) same =
    let here : a + 0 ≡ a = omega arith in
    let first : m' a ≡ m a = rw here at (same 0 (omega arith)) in
    let rest : bytes_at m' (suc a) n ≡ bytes_at m (suc a) n = bytes_at-agree m m' (suc a) n (λ i below. let there : a + suc i ≡ suc a + i = omega arith in rw there at (same (suc i) (omega arith))) in
    rw (first, rest) refl

-- the word of a word's bytes
word_of-bytes_of : (n w : ℕ) → w < 256 ^ n → word_of (bytes_of n w) ≡ w
unfolding bytes_of word_of
word_of-bytes_of zero w small = omega arith
word_of-bytes_of (suc n) w small =
    let more : 256 ^ suc n ≡ 256 * 256 ^ n = pow-succ' 256 n in
    let rest : word_of (bytes_of n (w / 256)) ≡ w / 256 = word_of-bytes_of n (w / 256) (omega (arith, more, small)) in
    omega (arith, rest)

-- if an access with one place touches a byte, its address is one of the access's
touched : (a : Access) (distance : ℕ) (r : Window) (i : ℕ) → MayBeAt a distance → a.least ≡ a.greatest → touches a r i ≡ true → (first_address a.window + distance ≤ first_address r + i) × (first_address r + i < first_address a.window + distance + byte_count a.size)
touched a distance r i at alone e =
    let window : first_address a.window ≡ first_address r = grind (arith, nat_tests, e) in
    let low : a.least ≤ i = grind (arith, nat_tests, e) in
    let high : i < a.greatest + byte_count a.size = grind (arith, nat_tests, e) in
    (omega (arith, at.least, at.greatest), omega (arith, at.least, at.greatest))

-- the stack comes after the other windows
below_stack : (r : Window) → is_stack r ≡ false → first_address r + kept_bytes r ≤ first_address Stack
below_stack Key e = omega arith
below_stack Old e = omega arith
below_stack Arg e = omega arith
below_stack Result e = omega arith
below_stack Stack e = absurd cc

stack_first : (r : Window) → is_stack r ≡ true → first_address r ≡ first_address Stack
stack_first Key e = absurd cc
stack_first Old e = absurd cc
stack_first Arg e = absurd cc
stack_first Result e = absurd cc
stack_first Stack e = refl

-- an access that touches no byte of a slot is before it or after it
apart : (a : Access) (distance slot : ℕ) → MayBeAt a distance → touches_slot a slot ≡ false → (first_address a.window + distance + byte_count a.size ≤ first_address Stack + 8 * slot) ⊎ (first_address Stack + 8 * slot + 8 ≤ first_address a.window + distance)
apart a distance slot at e =
    elim (cases_Bool (is_stack a.window)) [
      | inl here ↦
          let window = stack_first a.window here in
          elim (and_cases (nat_lt a.least (8 * slot + 8)) (nat_lt (8 * slot) (a.greatest + byte_count a.size)) (rw here at e)) [
            | inl first ↦ let behind : 8 * slot + 8 ≤ a.least = ltb-false a.least (8 * slot + 8) first in inr (omega (arith, at.least))
            | inr second ↦ let before : a.greatest + byte_count a.size ≤ 8 * slot = ltb-false (8 * slot) (a.greatest + byte_count a.size) second in inl (omega (arith, at.greatest))
          ]
      | inr elsewhere ↦ inl (omega (arith, below_stack a.window elsewhere, at.greatest, a.inside))
    ]

-- facts about an access that fills a slot
record Fills (a : Access) (slot : ℕ) : Type 0 where
  window : first_address a.window ≡ first_address Stack
  alone : a.least ≡ a.greatest
  whole : byte_count a.size ≡ 8
  first : a.least ≡ 8 * slot

filled : (a : Access) (slot : ℕ) → fills_slot a slot ≡ true → Fills a slot
filled a slot e =
    let stack = and_parts (is_stack a.window) (nat_eq a.least a.greatest && (nat_eq (byte_count a.size) 8 && nat_eq a.least (8 * slot))) e in
    let alone = and_parts (nat_eq a.least a.greatest) (nat_eq (byte_count a.size) 8 && nat_eq a.least (8 * slot)) stack.1 in
    let whole = and_parts (nat_eq (byte_count a.size) 8) (nat_eq a.least (8 * slot)) alone.1 in
    record {
      window = stack_first a.window stack.0;
      alone = eqb-true a.least a.greatest alone.0;
      whole = eqb-true (byte_count a.size) 8 whole.0;
      first = eqb-true a.least (8 * slot) whole.1;
    }

-- a store that fills a slot leaves its word there
slot_filled : (a : Access) (memory : Partial) (distance slot w : ℕ) → MayBeAt a distance → Fills a slot → IsWord w → slot_word (with_bytes memory (first_address a.window + distance) (bytes_of (byte_count a.size) w)) slot ≡ Some w
slot_filled a memory distance slot w at fills word =
    let address : first_address a.window + distance ≡ first_address Stack + 8 * slot = omega (arith, fills.window, fills.alone, fills.first, at.least, at.greatest) in
    let here = first_address Stack + 8 * slot in
    let read : bytes_at (with_bytes memory here (bytes_of 8 w)) here 8 ≡ Some (bytes_of 8 w) = subst (λ (n : ℕ). bytes_at (with_bytes memory here (bytes_of 8 w)) here n ≡ Some (bytes_of 8 w)) (length-bytes_of 8 w) (bytes_at-written memory here (bytes_of 8 w)) in
    let back : word_of (bytes_of 8 w) ≡ w = word_of-bytes_of 8 w word in
    rw (address, fills.whole) (ap (option_map word_of) read ∙ ap Some back)

-- a store that touches no byte of a slot doesn't change it
slot_kept : (a : Access) (memory : Partial) (distance slot w : ℕ) → MayBeAt a distance → touches_slot a slot ≡ false → slot_word (with_bytes memory (first_address a.window + distance) (bytes_of (byte_count a.size) w)) slot ≡ slot_word memory slot
slot_kept a memory distance slot w at e =
    let from = first_address a.window + distance in
    let bs = bytes_of (byte_count a.size) w in
    let len = length-bytes_of (byte_count a.size) w in
    ap (option_map word_of) (bytes_at-agree memory (with_bytes memory from bs) (first_address Stack + 8 * slot) 8 (λ i below.
    with_bytes-outside memory from bs (first_address Stack + 8 * slot + i) (elim (apart a distance slot at e) [ inl before ↦ inr (omega (arith, len, before)) | inr behind ↦ inl (omega (arith, behind)) ])))

-- a frame with an access's marks and its value describes the memory after the store
pub store_describes : (f g : Frame) (a : Access) (x : RegValue) → Marks f a g → Spills f a x g → DescribesStore f a x g
store_describes f g a x marks spills memory distance w at stands d =
    let bs = bytes_of (byte_count a.size) w in
    let from = first_address a.window + distance in
    let len = length-bytes_of (byte_count a.size) w in
    record {
      written = λ r i e. with_bytes-present memory from bs (first_address r + i) (elim (or_cases (nat_eq a.least a.greatest && touches a r i) (is_written f r i) (sym (marks r i) ∙ e)) [
        | inl new ↦
            let parts = and_parts (nat_eq a.least a.greatest) (touches a r i) new in
            let h = touched a distance r i at (eqb-true a.least a.greatest parts.0) parts.1 in
            inl (h.0, omega (arith, len, h.1))
        | inr old ↦ inr (d.written r i old)
      ]);
      spilled = λ slot y e. elim (chosen (fills_slot a slot) (Some x) (cond (touches_slot a slot) None (spilled_in f slot)) (Some y) (sym (spills slot) ∙ e)) [
        | inl new ↦
            let same : x ≡ y = some_same x y new.1 in
            let there = slot_filled a memory distance slot w at (filled a slot new.0) (stands_word x w stands) in
            subst (λ (o : Option ℕ). StandsFor y o) (sym there) (subst (λ (v : RegValue). StandsFor v (Some w)) same stands)
        | inr other ↦ elim (chosen (touches_slot a slot) None (spilled_in f slot) (Some y) other.1) [
          | inl lost ↦ let no : None ≡ Some y = lost.1 in absurd cc
          | inr kept ↦ subst (λ (o : Option ℕ). StandsFor y o) (sym (slot_kept a memory distance slot w at kept.0)) (d.spilled slot y kept.1)
        ]
      ];
    }
  where
    some_same : (x y : RegValue) → Some x ≡ Some y → x ≡ y
    some_same x y e = cc

-- a value that is not Unwritten is spilled
pub store_values : (f g : Frame) (a : Access) (x : RegValue) → Spills f a x g → x ≢ Unwritten → NoneUnwritten f → NoneUnwritten g
store_values f g a x spills value none slot e =
    elim (chosen (fills_slot a slot) (Some x) (cond (touches_slot a slot) None (spilled_in f slot)) (Some Unwritten) (sym (spills slot) ∙ e)) [
      | inl new ↦ let is : Some x ≡ Some Unwritten = new.1 in value cc
      | inr other ↦ elim (chosen (touches_slot a slot) None (spilled_in f slot) (Some Unwritten) other.1) [
        | inl lost ↦ let no : None ≡ Some Unwritten = lost.1 in absurd cc
        | inr kept ↦ none slot kept.1
      ]
    ]

-- the bytes of a memory are below 256, and past the last there is the default
pub bytes_small : (memory : Partial) (a n : ℕ) (bs : List ℕ) → HasBytes memory → bytes_at memory a n ≡ Some bs → (i : ℕ) → get_or bs i 0 < 256
bytes_small memory a n bs h e i =
    let len = length-bytes_at memory a n bs e in
    elim (split i n) [
      | inl lt ↦ h (a + i) (get_or bs i 0) (byte_read memory a n bs e i lt)
      | inr le ↦ let past : get_or bs i 0 ≡ 0 = get_or-eq_default bs 0 (omega (arith, len, le)) in omega (arith, past)
    ]
  where
    split : (i n : ℕ) → (i < n) ⊎ (n ≤ i)
    split i n = grind arith

-- bytes that a frame marks as written can be loaded
load_finds : (f : Frame) (a : Access) (memory : Partial) (distance : ℕ) → DescribesMemory f memory → AreWritten f a → MayBeAt a distance → (bs : List ℕ) × (bytes_at memory (first_address a.window + distance) (byte_count a.size) ≡ Some bs)
load_finds f a memory distance d written at = bytes_present memory (first_address a.window + distance) (byte_count a.size) (λ i lt.
    let same : first_address a.window + (distance + i) ≡ first_address a.window + distance + i = omega arith in
    value_there (memory (first_address a.window + distance + i)) (subst (λ (q : ℕ). IsSome (memory q)) same (d.written a.window (distance + i) (written (distance + i) (omega (arith, at.least)) (omega (arith, at.greatest))))))

loaded_whole : (size : AccessSize) (signed : Bool) (n : ℕ) → byte_count size ≡ 8 → loaded_word size signed n ≡ n
loaded_whole Byte signed n e = absurd (omega arith)
loaded_whole HalfWord signed n e = absurd (omega arith)
loaded_whole Word signed n e = absurd (omega arith)
loaded_whole DoubleWord signed n e = refl

-- a load of a whole slot gives a word that its value stands for
pub load_slot : (f : Frame) (a : Access) (memory : Partial) (distance slot : ℕ) (x : RegValue) → fills_slot a slot ≡ true → spilled_in f slot ≡ Some x → AreWritten f a → DescribesMemory f memory → MayBeAt a distance → ReadsAs memory (first_address a.window + distance) a.size a.signed x
load_slot f a memory distance slot x e spilled written d at =
    let fills = filled a slot e in
    let found = load_finds f a memory distance d written at in
    let address : first_address a.window + distance ≡ first_address Stack + 8 * slot = omega (arith, fills.window, fills.alone, fills.first, at.least, at.greatest) in
    let read : bytes_at memory (first_address Stack + 8 * slot) 8 ≡ Some found.0 = rw (address, fills.whole) at found.1 in
    let word : slot_word memory slot ≡ Some (word_of found.0) = ap (option_map word_of) read in
    let stands : StandsFor x (Some (word_of found.0)) = subst (λ (o : Option ℕ). StandsFor x o) word (d.spilled slot x spilled) in
    record {
      bytes = found.0;
      present = found.1;
      stands = subst (λ (n : ℕ). StandsFor x (Some n)) (sym (loaded_whole a.size a.signed (word_of found.0) fills.whole)) stands;
    }

-- any load gives a word in the range of all that it may give
pub load_range : (f : Frame) (a : Access) (memory : Partial) (distance : ℕ) (r : Range) → ((n : ℕ) → n < 256 ^ byte_count a.size → IsIn (loaded_word a.size a.signed n) r) → HasBytes memory → AreWritten f a → DescribesMemory f memory → MayBeAt a distance → ReadsAs memory (first_address a.window + distance) a.size a.signed (Number r)
load_range f a memory distance r holds small written d at =
    let found = load_finds f a memory distance d written at in
    let from = first_address a.window + distance in
    let len = length-bytes_at memory from (byte_count a.size) found.0 found.1 in
    record {
      bytes = found.0;
      present = found.1;
      stands = holds (word_of found.0) (word_of-bound (byte_count a.size) found.0 len (bytes_small memory from (byte_count a.size) found.0 small found.1));
    }

-- the values that both sides had in a slot
record BothHad (x y : Option RegValue) (z : RegValue) : Type 0 where
  first : RegValue
  second : RegValue
  first_is : x ≡ Some first
  second_is : y ≡ Some second
  joined : IsJoin first second z

both_had : (x y : Option RegValue) (z : RegValue) → IsSlotJoin x y (Some z) → BothHad x y z
both_had (Some a) (Some b) z j = record { first = a; second = b; first_is = refl; second_is = refl; joined = j }
both_had (Some a) None z j = let no : Some z ≡ None = j in absurd cc
both_had None y z j = let no : Some z ≡ None = j in absurd cc

slot_joined : (f g h : Frame) (slot : ℕ) (z : RegValue) → JoinsSlots f g h → spilled_in h slot ≡ Some z → BothHad (spilled_in f slot) (spilled_in g slot) z
slot_joined f g h slot z joins e = both_had (spilled_in f slot) (spilled_in g slot) z (subst (λ (o : Option RegValue). IsSlotJoin (spilled_in f slot) (spilled_in g slot) o) e (joins slot))

pub join_describes_first : (f g h : Frame) → MeetsMarks f g h → JoinsSlots f g h → DescribesMore f h
join_describes_first f g h marks joins memory d = record {
  written = λ r i e. d.written r i (and_parts (is_written f r i) (is_written g r i) (sym (marks r i) ∙ e)).0;
  spilled = λ slot z e. let had = slot_joined f g h slot z joins e in join_first had.first had.second z (slot_word memory slot) had.joined (d.spilled slot had.first had.first_is);
}

pub join_describes_second : (f g h : Frame) → MeetsMarks f g h → JoinsSlots f g h → DescribesMore g h
join_describes_second f g h marks joins memory d = record {
  written = λ r i e. d.written r i (and_parts (is_written f r i) (is_written g r i) (sym (marks r i) ∙ e)).1;
  spilled = λ slot z e. let had = slot_joined f g h slot z joins e in join_second had.first had.second z (slot_word memory slot) had.joined (d.spilled slot had.second had.second_is);
}

pub join_values : (f g h : Frame) → JoinsSlots f g h → NoneUnwritten f → NoneUnwritten g → NoneUnwritten h
join_values f g h joins first second slot e =
    let had = slot_joined f g h slot Unwritten joins e in
    join_value had.first had.second Unwritten had.joined
    (λ is. first slot (had.first_is ∙ ap Some is))
    (λ is. second slot (had.second_is ∙ ap Some is))
    refl
