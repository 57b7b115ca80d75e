-- Addresses of pointers.
use Rattle.std.proofs.Common.{◌≡◌, ℕ, ◌+◌, ◌-◌, ◌%◌, ◌^◌, ◌<◌, ◌≤◌, ◌∙◌, Some, refl, ap, sym, arith, ℤ, pos, negsuc, SFits, to_z, of_z}
use Rattle.std.specs.Prelude.{◌≤ℤ◌, ◌+ℤ◌, ◌-ℤ◌, neg_ℤ}
use Rattle.std.specs.Int.{w64}
use Rattle.std.proofs.lemmas.Int.{ints, to_z-of_z}
use Rattle.std.proofs.Math.Facts.{Fits-of_z}
use Rattle.bpf_model.specs.Words.{IsWord, signed, sign_extended}
use Rattle.bpf_model.specs.declared.window.Window.{Window}
use Rattle.bpf_model.specs.declared.window.Window.TheVariants.{Key, Old, Arg, Result, Stack}
use Rattle.bpf_model.specs.Memory.{first_address}
use Rattle.bpf_model.specs.Step.{address_of}
use Rattle.value_ranges.specs.declared.range.Range.{Range}
use Rattle.value_ranges.specs.In.{IsIn, IsWithinSigned}
use Rattle.bpf_model.proofs.SignedLemmas.{biased}
use Rattle.stack_slots.specs.declared.pointer.Pointer.{Pointer}
use Rattle.stack_slots.specs.declared.reg_value.RegValue.{RegValue}
use Rattle.stack_slots.specs.declared.reg_value.RegValue.TheVariants.{Unwritten, Number, Pointer as PointerInto}
use Rattle.stack_slots.specs.Values.{PointsTo, StandsFor}

-- a number from -2^20 to 2^20, like the offsets of pointers
pub record IsNear (offset : ℤ) : Type 0 where
  pub least : neg_ℤ (pos (2 ^ 20)) ≤ℤ offset
  pub most : offset ≤ℤ pos (2 ^ 20)

-- a number from -2^21 to 2^21 fits a signed word
pos_fits : (n : ℕ) → pos n ≤ℤ pos (2 ^ 21) → n ≤ 2 ^ 21
pos_fits n h = omega (arith, ints)

neg_fits : (n : ℕ) → neg_ℤ (pos (2 ^ 21)) ≤ℤ negsuc n → n < 2 ^ 21
neg_fits n h = omega (arith, ints)

between_fits : (z : ℤ) → neg_ℤ (pos (2 ^ 21)) ≤ℤ z → z ≤ℤ pos (2 ^ 21) → SFits w64 z
between_fits (pos n) low high = let s : n ≤ 2 ^ 21 = pos_fits n high in record { sfits = omega arith }
between_fits (negsuc n) low high = let s : n < 2 ^ 21 = neg_fits n low in record { sfits = omega arith }

near_fits : (z : ℤ) → IsNear z → SFits w64 z
near_fits z near = between_fits z (omega (arith, ints, near.least)) (omega (arith, ints, near.most))

-- the bits of a small number, as a linear fact
pub near_bits : (z : ℤ) → IsNear z → (sign_extended z < 2 ^ 64) × (z +ℤ pos (2 ^ 63) ≡ pos ((sign_extended z + 2 ^ 63) % 2 ^ 64))
near_bits z near =
    let fits = near_fits z near in
    let word : sign_extended z < 2 ^ 64 = (Fits-of_z fits).fits in
    let same = to_z-of_z w64 z fits in
    (word, omega (arith, ints, biased (sign_extended z) word, same))

-- an address moves with its offset
pub address_moved : (first y : ℕ) (offset moved : ℤ) → IsNear offset → IsNear moved → IsWord y → moved ≡ offset +ℤ signed y → address_of first moved ≡ (address_of first offset + y) % 2 ^ 64
address_moved first y offset moved near near' word is =
    let a = near_bits offset near in
    let b = near_bits moved near' in
    let c = biased y word in
    let bits : sign_extended moved ≡ (sign_extended offset + y) % 2 ^ 64 = omega (arith, ints) in
    omega arith

-- and back
pub address_back : (first y : ℕ) (offset moved : ℤ) → IsNear offset → IsNear moved → IsWord y → moved ≡ offset -ℤ signed y → address_of first moved ≡ (address_of first offset + (2 ^ 64 - y)) % 2 ^ 64
address_back first y offset moved near near' word is =
    let a = near_bits offset near in
    let b = near_bits moved near' in
    let c = biased y word in
    let bits : sign_extended moved ≡ (sign_extended offset + (2 ^ 64 - y)) % 2 ^ 64 = omega (arith, ints) in
    omega arith

-- the offsets of a pointer are near
pub offset_near : (p : Pointer) (z : ℤ) → p.least ≤ℤ z → z ≤ℤ p.greatest → IsNear z
offset_near p z low high = record { least = omega (arith, ints, p.above, low); most = omega (arith, ints, p.below, high) }

-- a pointer plus a number
pub points_plus : (p q : Pointer) (r : Range) (x y : ℕ) → q.window ≡ p.window → q.least ≡ p.least +ℤ r.smin → q.greatest ≡ p.greatest +ℤ r.smax → PointsTo p x → IsIn y r → PointsTo q ((x + y) % 2 ^ 64)
points_plus p q r x y same least greatest at lies = record {
  offset = offset;
  least = low;
  greatest = high;
  address = sym (address_moved (first_address p.window) y at.offset offset (offset_near p at.offset at.least at.greatest) (offset_near q offset low high) lies.word refl ∙ ap (λ (k : ℕ). (k + y) % 2 ^ 64) (sym at.address)) ∙ ap (λ (w : Window). address_of (first_address w) offset) (sym same);
}
  where
    offset : ℤ
    offset = at.offset +ℤ signed y

    low : q.least ≤ℤ offset
    low = omega (arith, ints, least, at.least, lies.smin)

    high : offset ≤ℤ q.greatest
    high = omega (arith, ints, greatest, at.greatest, lies.smax)

-- a pointer less a number
pub points_minus : (p q : Pointer) (r : Range) (x y : ℕ) → q.window ≡ p.window → q.least ≡ p.least -ℤ r.smax → q.greatest ≡ p.greatest -ℤ r.smin → PointsTo p x → IsIn y r → PointsTo q ((x + (2 ^ 64 - y)) % 2 ^ 64)
points_minus p q r x y same least greatest at lies = record {
  offset = offset;
  least = low;
  greatest = high;
  address = sym (address_back (first_address p.window) y at.offset offset (offset_near p at.offset at.least at.greatest) (offset_near q offset low high) lies.word refl ∙ ap (λ (k : ℕ). (k + (2 ^ 64 - y)) % 2 ^ 64) (sym at.address)) ∙ ap (λ (w : Window). address_of (first_address w) offset) (sym same);
}
  where
    offset : ℤ
    offset = at.offset -ℤ signed y

    low : q.least ≤ℤ offset
    low = omega (arith, ints, least, at.least, lies.smax)

    high : offset ≤ℤ q.greatest
    high = omega (arith, ints, greatest, at.greatest, lies.smin)

-- the windows begin at low addresses
pub first_small : (r : Window) → first_address r ≤ 0x50000
first_small Key = omega arith
first_small Old = omega arith
first_small Arg = omega arith
first_small Result = omega arith
first_small Stack = omega arith

-- so an address near one reads as first address plus offset
pub signed_address : (first : ℕ) (offset : ℤ) → first ≤ 0x50000 → IsNear offset → signed (address_of first offset) ≡ pos first +ℤ offset
signed_address first offset small near =
    let a = near_bits offset near in
    let w : address_of first offset < 2 ^ 64 = omega arith in
    let c = biased (address_of first offset) w in
    omega (arith, ints, near.least, near.most)

-- and lies between those of the least and the greatest
pub points_within : (p : Pointer) (w : ℕ) (low high : ℤ) → low ≡ pos (first_address p.window) +ℤ p.least → high ≡ pos (first_address p.window) +ℤ p.greatest → PointsTo p w → IsWithinSigned w low high
points_within p w low high l h at =
    let near = offset_near p at.offset at.least at.greatest in
    let reads : signed w ≡ pos (first_address p.window) +ℤ at.offset = ap signed at.address ∙ signed_address (first_address p.window) at.offset (first_small p.window) near in
    record {
      word = rw at.address (omega arith);
      smin = omega (arith, ints, reads, l, at.least);
      smax = omega (arith, ints, reads, h, at.greatest);
    }

-- a value stands only for words
pub stands_word : (v : RegValue) (w : ℕ) → StandsFor v (Some w) → IsWord w
stands_word Unwritten w stands = stands
stands_word (Number r) w stands = stands.word
stands_word (PointerInto p) w stands = rw stands.address (omega arith)

-- so the first address with an offset fits a signed word
pub address_fits : (first : ℕ) (z : ℤ) → first ≤ 0x50000 → IsNear z → SFits w64 (pos first +ℤ z)
address_fits first z small near = between_fits (pos first +ℤ z) (omega (arith, ints, near.least)) (omega (arith, ints, near.most, small))

-- the code's sum is the sum
pub sum_reads : (first : ℤ) (place : ℕ) (z : ℤ) → first ≡ pos place → place ≤ 0x50000 → IsNear z → to_z w64 (of_z w64 (to_z w64 (of_z w64 first) +ℤ to_z w64 (of_z w64 z))) ≡ pos place +ℤ z
sum_reads first place z is small near =
    let f : SFits w64 (pos place) = between_fits (pos place) (omega (arith, ints)) (omega (arith, ints, small)) in
    rw (is, to_z-of_z w64 (pos place) f, to_z-of_z w64 z (near_fits z near), to_z-of_z w64 (pos place +ℤ z) (address_fits place z small near)) refl
