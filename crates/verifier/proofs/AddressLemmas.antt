-- Addresses of accesses, and sums and differences of words.
use Rattle.std.proofs.Common.{◌≡◌, ℕ, ◌+◌, ◌-◌, ◌%◌, ◌^◌, ◌≤◌, SFits, refl, sym, ap, ◌∙◌, ◌<◌, arith, ℤ, pos, negsuc}
use Rattle.std.specs.Int.{w16}
use Rattle.std.specs.Prelude.{◌≤ℤ◌, ◌+ℤ◌}
use Rattle.std.proofs.lemmas.Int.{ints}
use Rattle.bpf_model.specs.Words.{IsWord, sign_extended}
use Rattle.bpf_model.specs.declared.operations.AluOp.TheVariants.{Add, Sub}
use Rattle.bpf_model.specs.declared.operations.Width.TheVariants.{W64}
use Rattle.bpf_model.specs.Arithmetic.{alu_value}
use Rattle.bpf_model.specs.declared.window.Window.{Window}
use Rattle.bpf_model.specs.Memory.{first_address}
use Rattle.bpf_model.specs.Step.{address_of}
use Rattle.stack_slots.specs.declared.pointer.Pointer.{Pointer}
use Rattle.stack_slots.specs.Values.{PointsTo}
use Rattle.stack_slots.proofs.PointerLemmas.{IsNear, near_bits, offset_near, first_small}
use Rattle.verifier.specs.declared.abstract_state.span.Span.{Span}
use Rattle.verifier.specs.Describes.{IsInSpan}
use Rattle.verifier.specs.Instructions.{IsAboveLeastOffset}

-- an offset from an address near a window's first one
address_at : (first span : ℕ) (z offset : ℤ) → first ≤ 0x50000 → IsNear z → IsNear offset → pos span ≡ z +ℤ offset → address_of (address_of first z) offset ≡ first + span
address_at first span z offset small near near' is =
    let a = near_bits z near in
    let b = near_bits offset near' in
    let low : span ≤ 2 ^ 21 = omega (arith, ints, is, near.most, near'.most) in
    let bits : span ≡ (sign_extended z + sign_extended offset) % 2 ^ 64 = omega (arith, ints) in
    omega arith

-- the offset of an access has 16 bits
pub offset_fits : (z : ℤ) → SFits w16 z → IsAboveLeastOffset z
offset_fits (pos n) fits = omega (arith, ints)
offset_fits (negsuc n) fits = let small : n < 2 ^ 15 = fits.sfits in omega (arith, ints, small)

-- the offset of an access is small
pub offset_small : (z : ℤ) → SFits w16 z → IsNear z
offset_small (pos n) fits = let small : n < 2 ^ 15 = fits.sfits in record { least = omega (arith, ints, small); most = omega (arith, ints, small) }
offset_small (negsuc n) fits = let small : n < 2 ^ 15 = fits.sfits in record { least = omega (arith, ints, small); most = omega (arith, ints, small) }

not_negative : (z : ℤ) → pos 0 ≤ℤ z → (n : ℕ) × (z ≡ pos n)
not_negative (pos n) low = (n, refl)
not_negative (negsuc n) low = absurd (omega (arith, ints, low))

-- an access through a pointer is at one of its offsets, from the least to the greatest
pub access_at : (p : Pointer) (span : Span) (offset : ℤ) (w : ℕ) → IsNear offset → span.window ≡ p.window → pos span.least ≡ p.least +ℤ offset → pos span.greatest ≡ p.greatest +ℤ offset → PointsTo p w → IsInSpan span (address_of w offset)
access_at p span offset w near window least greatest at =
    let z = at.offset in
    let there = not_negative (z +ℤ offset) (omega (arith, ints, least, at.least)) in
    let n = there.0 in
    record {
      distance = n;
      least = omega (arith, ints, there.1, least, at.least);
      greatest = omega (arith, ints, there.1, greatest, at.greatest);
      is = ap (λ (v : ℕ). address_of v offset) at.address ∙ (address_at (first_address p.window) n z offset (first_small p.window) (offset_near p z at.least at.greatest) near (sym there.1) ∙ ap (λ (r : Window). first_address r + n) (sym window));
    }

-- sums and differences of words, as pointers compute them
pub sum_is : (x y : ℕ) → (x + y) % 2 ^ 64 ≡ alu_value Add W64 x y
sum_is x y = omega arith

pub sum_is_swapped : (x y : ℕ) → (y + x) % 2 ^ 64 ≡ alu_value Add W64 x y
sum_is_swapped x y = omega arith

pub difference_is : (x y : ℕ) → IsWord y → (x + (2 ^ 64 - y)) % 2 ^ 64 ≡ alu_value Sub W64 x y
difference_is x y word = omega arith
