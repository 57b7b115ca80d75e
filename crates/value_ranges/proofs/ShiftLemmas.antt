-- Bounds of shifts.
use Rattle.std.proofs.Common.{◌≡◌, ℕ, ◌*◌, ◌/◌, ◌%◌, ◌^◌, ◌<◌, ◌≤◌, refl, inl, inr, arith, ℤ, pos, negsuc, SFits, to_z, of_z}
use Rattle.std.specs.Prelude.{◌⊎◌, ◌≤ℤ◌, FitsSigned}
use Rattle.std.specs.Int.{w32, w64}
use Rattle.std.specs.Int.Signed.{shr_z, mag_shr}
use Rattle.std.proofs.lemmas.Int.{ints, to_z-of_z, to_z_pos}
use Rattle.std.proofs.Math.Facts.{sfits_to_z}
use Rattle.std.proofs.lemmas.Nat.{mul-le, pow_pos}
use Rattle.std.proofs.Math.Nat.{div-le_self, mod-eq_of_lt}
use Rattle.bpf_model.specs.declared.operations.Width.TheVariants.{W32, W64}
use Rattle.bpf_model.specs.Arithmetic.{signed_right}
use Rattle.bpf_model.specs.Words.{IsWord, signed}
use Rattle.value_ranges.specs.In.{IsWithinUnsigned, IsWithinSigned}
use Rattle.bpf_model.proofs.SignedLemmas.{wrapped_below, wrapped_signed}
use Rattle.value_ranges.proofs.ProductLemmas.{quotient_most}

-- to the left, by one factor, if nothing is shifted out
pub shl_within : (x f a b m : ℕ) → m ≤ 2 ^ 64 → IsWithinUnsigned x a b → b * f < m → IsWithinUnsigned ((x * f) % m) (a * f) (b * f)
shl_within x f a b m n p r =
    let most : x * f ≤ b * f = mul-le x f b f p.umax (omega arith) in
    let least : a * f ≤ x * f = mul-le a f x f p.umin (omega arith) in
    let is : (x * f) % m ≡ x * f = mod-eq_of_lt (omega arith) in
    record { word = omega arith; umin = omega arith; umax = omega arith }

-- to the right, by one factor
pub shr_within : (x f a b : ℕ) → 0 < f → IsWord b → IsWithinUnsigned x a b → IsWithinUnsigned (x / f) (a / f) (b / f)
shr_within x f a b n h p =
    let high : x / f ≤ b / f = quotient_most x f b f p.umax n (omega arith) in
    let low : a / f ≤ x / f = quotient_most a f x f p.umin n (omega arith) in
    let most : b / f ≤ b = div-le_self b f in
    record { word = omega arith; umin = low; umax = high }

-- by any amount
pub shr_up_to : (x f b : ℕ) → IsWord b → x ≤ b → IsWithinUnsigned (x / f) 0 b
shr_up_to x f b h p = let most : x / f ≤ x = div-le_self x f in record { word = omega arith; umin = omega arith; umax = omega arith }

pos_le : (a b : ℕ) → pos a ≤ℤ pos b → a ≤ b
pos_le a b l = omega (arith, ints)

neg_le : (a b : ℕ) → negsuc a ≤ℤ negsuc b → b ≤ a
neg_le a b l = omega (arith, ints)

pos_less : (a b : ℕ) → pos a ≤ℤ negsuc b → ⊥
pos_less a b l = omega (arith, ints)

le_pos : (a b : ℕ) → a ≤ b → pos a ≤ℤ pos b
le_pos a b l = omega (arith, ints)

le_neg : (a b : ℕ) → b ≤ a → negsuc a ≤ℤ negsuc b
le_neg a b l = omega (arith, ints)

neg_pos : (a b : ℕ) → negsuc a ≤ℤ pos b
neg_pos a b = omega (arith, ints)

-- a signed shift keeps the order
pub shr_mono : (a b : ℤ) (m : ℕ) → 0 < m → a ≤ℤ b → shr_z a m ≤ℤ shr_z b m
shr_mono (pos a) (pos b) m h l = le_pos (a / m) (b / m) (quotient_most a m b m (pos_le a b l) h (omega arith))
shr_mono (pos a) (negsuc b) m h l = absurd (pos_less a b l)
shr_mono (negsuc a) (pos b) m h l = neg_pos (a / m) (b / m)
shr_mono (negsuc a) (negsuc b) m h l = le_neg (a / m) (b / m) (quotient_most b m a m (neg_le a b l) h (omega arith))

-- it brings a number nearer to 0 or -1
shr_least : (z : ℤ) (m : ℕ) → (pos 0 ≤ℤ shr_z z m) ⊎ (z ≤ℤ shr_z z m)
shr_least (pos a) m = inl (le_pos 0 (a / m) (omega arith))
shr_least (negsuc a) m = inr (le_neg a (a / m) (div-le_self a m))

shr_greatest : (z : ℤ) (m : ℕ) → (shr_z z m ≤ℤ negsuc 0) ⊎ (shr_z z m ≤ℤ z)
shr_greatest (pos a) m = inr (le_pos (a / m) a (div-le_self a m))
shr_greatest (negsuc a) m = inl (le_neg (a / m) 0 (omega arith))

-- the shift of the word is the shift of its signed reading
signed_shift : (x y : ℕ) → IsWord x → IsWord (signed_right W64 x y) × (signed (signed_right W64 x y) ≡ shr_z (signed x) (2 ^ (y % 64)))
unfolding signed_right
signed_shift x y h =
    let shifted : ℤ = shr_z (signed x) (2 ^ (y % 64)) in
    let read : FitsSigned w64 (signed x) = sfits_to_z (record { fits = h }) in
    let fits : FitsSigned w64 (shr_z (signed x) (2 ^ (y % 64))) = record { sfits = omega (arith, mag_shr (signed x) (2 ^ (y % 64)), read.sfits) } in
    (wrapped_below (2 ^ 64) shifted (omega arith), wrapped_signed shifted fits)

-- by one amount
pub shift_within : (x y : ℕ) (a b lo hi : ℤ) → IsWithinSigned x a b → lo ≡ shr_z a (2 ^ (y % 64)) → hi ≡ shr_z b (2 ^ (y % 64)) → IsWithinSigned (signed_right W64 x y) lo hi
shift_within x y a b lo hi p d e =
    let s = signed_shift x y p.word in
    let positive : 0 < 2 ^ (y % 64) = pow_pos (y % 64) in
    record {
      word = s.0;
      smin = rw (d, s.1) (shr_mono a (signed x) (2 ^ (y % 64)) positive p.smin);
      smax = rw (e, s.1) (shr_mono (signed x) b (2 ^ (y % 64)) positive p.smax);
    }

-- by any amount
pub some_shift_within : (x y : ℕ) (a b lo hi : ℤ) → IsWithinSigned x a b → lo ≤ℤ a → lo ≤ℤ pos 0 → b ≤ℤ hi → negsuc 0 ≤ℤ hi → IsWithinSigned (signed_right W64 x y) lo hi
some_shift_within x y a b lo hi p d e f g =
    let s = signed_shift x y p.word in
    record {
      word = s.0;
      smin = rw (s.1) (elim (shr_least (signed x) (2 ^ (y % 64))) [ inl t ↦ omega (arith, ints) | inr t ↦ omega (arith, ints) ]);
      smax = rw (s.1) (elim (shr_greatest (signed x) (2 ^ (y % 64))) [ inl t ↦ omega (arith, ints) | inr t ↦ omega (arith, ints) ]);
    }

-- the machine's shift of a signed number fits
pub shifted_is : (z : ℤ) (m : ℕ) → SFits w64 z → to_z w64 (of_z w64 (shr_z (to_z w64 (of_z w64 z)) m)) ≡ shr_z z m
shifted_is z m f =
    let g : SFits w64 (shr_z z m) = record { sfits = omega (arith, mag_shr z m, f.sfits) } in
    rw (to_z-of_z w64 z f, to_z-of_z w64 (shr_z z m) g) refl

-- at 32 bits, for a number with a clear top bit
pub right_word : (x y : ℕ) → x < 2 ^ 31 → signed_right W32 x y ≡ x / 2 ^ (y % 32)
unfolding signed_right
right_word x y h =
    let less : x / 2 ^ (y % 32) ≤ x = div-le_self x (2 ^ (y % 32)) in
    rw (to_z_pos w32 x h) (mod-eq_of_lt (omega (arith, h, less)))
