-- Units and their bytes.
use Rattle.std.proofs.Common.{◌≡◌, ℕ, zero, suc, ◌+◌, ◌*◌, ◌/◌, ◌%◌, ◌^◌, ◌<◌, List, [], ◌∷◌, ◌++◌, length, get_or, take, drop, ℤ, refl, ap, arith}
use mir.Val.{bits}
use Rattle.std.specs.Int.{Width, w16, w32, cast_signed, cast_unsigned}
use Rattle.std.proofs.lemmas.Int.{of_z-to_z, to_z-of_z}
use Rattle.byteorder.specs.Endian.{little_number, little_bytes}
use Rattle.bpf_model.specs.Words.{bytes_of, word_of}
use Rattle.bpf_model.specs.Spelling.{Fields, unit_bytes}
use Rattle.bpf_decode.specs.UnitFaults.{FitUnit}
use Rattle.bpf_model.proofs.WordLemmas.{bytes_of-2, bytes_of-4, word_of-bound}
use Rattle.bpf_model.proofs.UnitLaws as laws
use Rattle.bpf_model.proofs.UnitLaws.{FitFields}

-- each number is a byte
abbrev pub AreBytes : List ℕ → Type 0
AreBytes bytes = (i : ℕ) → get_or bytes i 0 < 256

-- the bytes of the word of these bytes are these bytes
pub bytes_of-word_of : (bytes : List ℕ) → AreBytes bytes → bytes_of (length bytes) (word_of bytes) ≡ bytes
unfolding bytes_of word_of
bytes_of-word_of [] h = refl
bytes_of-word_of (b ∷ bytes) h =
    let first = h 0 in
    let low : (b + 256 * word_of bytes) % 256 ≡ b = omega (arith, first) in
    let high : (b + 256 * word_of bytes) / 256 ≡ word_of bytes = omega (arith, first) in
    rw (low, high) (ap (λ (x : List ℕ). b ∷ x) (bytes_of-word_of bytes (λ i. h (suc i))))

-- a signed number is spelled by the bytes that it was read from
pub signed_again : (w : Width) (bytes : List ℕ) (z : ℤ) → AreBytes bytes → 256 ^ length bytes ≡ 2 ^ bits w → z ≡ cast_signed w (word_of bytes) → bytes_of (length bytes) (cast_unsigned w z) ≡ bytes
signed_again w bytes z h wide e =
    let bound : word_of bytes < 256 ^ length bytes = word_of-bound (length bytes) bytes refl h in
    rw (e, of_z-to_z w (word_of bytes) (omega (arith, bound, wide))) (bytes_of-word_of bytes h)

-- eight bytes are spelled by the fields that are read from them
pub unit_again : (unit : List ℕ) (offset imm : ℤ) → length unit ≡ 8 → AreBytes unit
    → offset ≡ cast_signed w16 (little_number 2 (take 2 (drop 2 unit))) → imm ≡ cast_signed w32 (little_number 4 (take 4 (drop 4 unit)))
    → unit ≡ unit_bytes (record { opcode = get_or unit 0 0; dst = get_or unit 1 0 % 16; src = get_or unit 1 0 / 16; offset = offset; imm = imm })
unfolding word_of
unit_again (a ∷ b ∷ c ∷ d ∷ e ∷ f ∷ g ∷ h ∷ []) offset imm len bytes o i =
    let registers : 16 * (b / 16) + b % 16 ≡ b = omega arith in
    rw (registers, signed_again w16 (c ∷ d ∷ []) offset second refl o, signed_again w32 (e ∷ f ∷ g ∷ h ∷ []) imm third refl i) refl
  where
    second : AreBytes (c ∷ d ∷ [])
    second zero = bytes 2
    second (suc zero) = bytes 3
    second (suc (suc k)) = omega arith

    third : AreBytes (e ∷ f ∷ g ∷ h ∷ [])
    third k = bytes (suc (suc (suc (suc k))))
unit_again [] offset imm len bytes o i = absurd (omega arith)
unit_again (a ∷ []) offset imm len bytes o i = absurd (omega arith)
unit_again (a ∷ b ∷ []) offset imm len bytes o i = absurd (omega arith)
unit_again (a ∷ b ∷ c ∷ []) offset imm len bytes o i = absurd (omega arith)
unit_again (a ∷ b ∷ c ∷ d ∷ []) offset imm len bytes o i = absurd (omega arith)
unit_again (a ∷ b ∷ c ∷ d ∷ e ∷ []) offset imm len bytes o i = absurd (omega arith)
unit_again (a ∷ b ∷ c ∷ d ∷ e ∷ f ∷ []) offset imm len bytes o i = absurd (omega arith)
unit_again (a ∷ b ∷ c ∷ d ∷ e ∷ f ∷ g ∷ []) offset imm len bytes o i = absurd (omega arith)
unit_again (a ∷ b ∷ c ∷ d ∷ e ∷ f ∷ g ∷ h ∷ x ∷ rest) offset imm len bytes o i = absurd (omega arith)

-- byteorder spells the fields so
pub unit_bytes-little : (f : Fields) → FitUnit f
    → f.opcode ∷ (f.src * 16 + f.dst) ∷ (little_bytes 2 (cast_unsigned w16 (cast_signed w16 (cast_unsigned w16 f.offset))) ++ little_bytes 4 (cast_unsigned w32 (cast_signed w32 (cast_unsigned w32 f.imm)))) ≡ unit_bytes f
unit_bytes-little f fit =
    let registers : f.src * 16 + f.dst ≡ 16 * f.src + f.dst = omega arith in
    rw (registers, to_z-of_z w16 f.offset fit.offset, to_z-of_z w32 f.imm fit.imm, ← bytes_of-2 (cast_unsigned w16 f.offset), ← bytes_of-4 (cast_unsigned w32 f.imm)) refl

-- a unit has eight bytes
pub length-unit_bytes : (f : Fields) → length (unit_bytes f) ≡ 8
unfolding bytes_of
length-unit_bytes f = refl

-- fields that fit their bits fit a unit
fit_unit : (f : Fields) → FitUnit f → FitFields f
fit_unit f fit = record { dst = omega (arith, fit.dst); offset = fit.offset; imm = fit.imm }

-- bytes begin with one unit at most
pub unit_bytes-first : (f g : Fields) (xs ys : List ℕ) → FitUnit f → FitUnit g → unit_bytes f ++ xs ≡ unit_bytes g ++ ys → (f ≡ g) × (xs ≡ ys)
unit_bytes-first f g xs ys fit-f fit-g e = laws.unit_bytes-first f g xs ys (fit_unit f fit-f) (fit_unit g fit-g) e
