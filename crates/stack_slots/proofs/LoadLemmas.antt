-- Words loaded with a sign.
use Rattle.std.proofs.Common.{ℕ, ◌%◌, ◌^◌, arith, pos}
use Rattle.std.specs.Prelude.{neg_ℤ}
use Rattle.std.specs.Int.{w8, w16, w32, cast_signed}
use Rattle.std.proofs.lemmas.Int.{ints}
use Rattle.bpf_model.specs.declared.operations.SignExtension.TheVariants.{From8To64, From16To64, From32To64}
use Rattle.bpf_model.specs.Arithmetic.{extended}
use Rattle.value_ranges.specs.In.{IsWithinSigned}
use Rattle.value_ranges.proofs.MoveLemmas.{read_fits, word_within}

pub signed_byte_within : (n : ℕ) → IsWithinSigned (extended From8To64 n) (neg_ℤ (pos 0x80)) (pos 0x7f)
unfolding extended
signed_byte_within n = word_within (cast_signed w8 (n % 2 ^ 8)) (neg_ℤ (pos 0x80)) (pos 0x7f) (2 ^ 7) (read_fits w8 n) (omega arith) (omega (arith, ints)) (omega (arith, ints))

pub signed_half_word_within : (n : ℕ) → IsWithinSigned (extended From16To64 n) (neg_ℤ (pos 0x8000)) (pos 0x7fff)
unfolding extended
signed_half_word_within n = word_within (cast_signed w16 (n % 2 ^ 16)) (neg_ℤ (pos 0x8000)) (pos 0x7fff) (2 ^ 15) (read_fits w16 n) (omega arith) (omega (arith, ints)) (omega (arith, ints))

pub signed_word_within : (n : ℕ) → IsWithinSigned (extended From32To64 n) (neg_ℤ (pos 0x8000_0000)) (pos 0x7fff_ffff)
unfolding extended
signed_word_within n = word_within (cast_signed w32 (n % 2 ^ 32)) (neg_ℤ (pos 0x8000_0000)) (pos 0x7fff_ffff) (2 ^ 31) (read_fits w32 n) (omega arith) (omega (arith, ints)) (omega (arith, ints))
