-- Reordering adds no bytes; reversing bytes twice gives them back.
use Rattle.std.proofs.Common.{◌≡◌, ℕ, ◌%◌, ◌<◌, List, get_or, refl, sym, ap, subst, ◌∙◌, arith}
use Rattle.std.specs.Prelude.{reverse}
use Rattle.std.specs.Int.{w16, w32, w64, swap_bytes, to_le_bytes, from_be_bytes}
use Rattle.std.proofs.lemmas.Nat.{be_bytes_2, be_bytes_4, be_bytes_8, from_be_bytes-to_be_bytes_2, from_be_bytes-to_be_bytes_4, from_be_bytes-to_be_bytes_8}
use Rattle.std.proofs.Math.Nat.{mod-eq_of_lt}
use Rattle.bpf_model.specs.declared.operations.ByteOrder.{ByteOrder}
use Rattle.bpf_model.specs.declared.operations.ByteOrder.TheVariants.{Little, Big, Swap}
use Rattle.bpf_model.specs.declared.operations.SwapWidth.{SwapWidth}
use Rattle.bpf_model.specs.declared.operations.SwapWidth.TheVariants.{S16, S32, S64}
use Rattle.bpf_model.specs.Arithmetic.{swap_modulus, reversed, reordered}
use Rattle.bpf_model.proofs.WordLemmas.{bytes_of-2, bytes_of-4, bytes_of-8, bytes_of-small}

small_2 : (n i : ℕ) → get_or (to_le_bytes w16 n) i 0 < 256
small_2 n i = subst (λ (bytes : List ℕ). get_or bytes i 0 < 256) (sym (bytes_of-2 n)) (bytes_of-small 2 n i)

small_4 : (n i : ℕ) → get_or (to_le_bytes w32 n) i 0 < 256
small_4 n i = subst (λ (bytes : List ℕ). get_or bytes i 0 < 256) (sym (bytes_of-4 n)) (bytes_of-small 4 n i)

small_8 : (n i : ℕ) → get_or (to_le_bytes w64 n) i 0 < 256
small_8 n i = subst (λ (bytes : List ℕ). get_or bytes i 0 < 256) (sym (bytes_of-8 n)) (bytes_of-small 8 n i)

-- the bytes of a reversed number, the highest first, are the number's, the lowest first
reversed_again : (size : SwapWidth) (n : ℕ) → n < swap_modulus size → reversed size (reversed size n) ≡ n
unfolding reversed
reversed_again S16 n h = ap (λ (bytes : List ℕ). from_be_bytes w16 (reverse bytes)) (be_bytes_2 (to_le_bytes w16 n) (swap_bytes w16 n) refl (small_2 n) refl) ∙ from_be_bytes-to_be_bytes_2 n h
reversed_again S32 n h = ap (λ (bytes : List ℕ). from_be_bytes w32 (reverse bytes)) (be_bytes_4 (to_le_bytes w32 n) (swap_bytes w32 n) refl (small_4 n) refl) ∙ from_be_bytes-to_be_bytes_4 n h
reversed_again S64 n h = ap (λ (bytes : List ℕ). from_be_bytes w64 (reverse bytes)) (be_bytes_8 (to_le_bytes w64 n) (swap_bytes w64 n) refl (small_8 n) refl) ∙ from_be_bytes-to_be_bytes_8 n h

-- a reversed number is a number of its width
reversed_below : (size : SwapWidth) (n : ℕ) → reversed size n < swap_modulus size
unfolding reversed
reversed_below S16 n = omega (arith, small_2 n 0, small_2 n 1)
reversed_below S32 n = omega (arith, small_4 n 0, small_4 n 1, small_4 n 2, small_4 n 3)
reversed_below S64 n = omega (arith, small_8 n 0, small_8 n 1, small_8 n 2, small_8 n 3, small_8 n 4, small_8 n 5, small_8 n 6, small_8 n 7)

low_of : (size : SwapWidth) (n : ℕ) → n % swap_modulus size < swap_modulus size
low_of S16 n = omega arith
low_of S32 n = omega arith
low_of S64 n = omega arith

-- in each order the other bits are zero
pub reordered_below : (order : ByteOrder) (size : SwapWidth) (x : ℕ) → reordered order size x < swap_modulus size
reordered_below Little size x = low_of size x
reordered_below Big size x = reversed_below size (x % swap_modulus size)
reordered_below Swap size x = reversed_below size (x % swap_modulus size)

-- if the bytes of a word are reversed twice, they are its low bytes
pub reversed_twice : (size : SwapWidth) (n : ℕ) → reversed size (reversed size (n % swap_modulus size) % swap_modulus size) ≡ n % swap_modulus size
reversed_twice size n =
    ap (reversed size) (mod-eq_of_lt (reversed_below size (n % swap_modulus size))) ∙ reversed_again size (n % swap_modulus size) (low_of size n)
