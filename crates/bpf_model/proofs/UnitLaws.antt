-- Bytes begin with one unit at most, and the fields of an instruction fit a unit.
use Rattle.std.proofs.Common.{◌≡◌, ℕ, zero, suc, ◌+◌, ◌*◌, ◌/◌, ◌%◌, ◌^◌, ◌<◌, List, ◌++◌, get_or, take, drop, pos, refl, sym, ap, ◌∙◌, arith}
use Rattle.std.specs.Int.{w16, w32, cast_signed, cast_unsigned}
use Rattle.std.proofs.lemmas.Int.{to_z-of_z}
use Rattle.std.proofs.lemmas.List.{append_cancel_left}
use Rattle.std.proofs.Math.Facts.{Fits-of_z, sfits_to_z}
use Rattle.std.proofs.Math.Nat.{pow-succ'}
use Rattle.bpf_model.specs.declared.operations.AluOp.{AluOp}
use Rattle.bpf_model.specs.declared.operations.AluOp.TheVariants.{SDiv, SMod}
use Rattle.bpf_model.specs.declared.operations.SignExtension.{SignExtension}
use Rattle.bpf_model.specs.declared.operations.SignExtension.TheVariants.{From8To32, From16To32, From8To64, From16To64, From32To64}
use Rattle.bpf_model.specs.declared.operations.SwapWidth.{SwapWidth}
use Rattle.bpf_model.specs.declared.operations.SwapWidth.TheVariants.{S16, S32, S64}
use Rattle.bpf_model.specs.declared.instruction.Operand.{Operand}
use Rattle.bpf_model.specs.declared.instruction.Operand.TheVariants.{Register, Immediate}
use Rattle.bpf_model.specs.declared.instruction.Insn.{Insn}
use Rattle.bpf_model.specs.declared.instruction.Insn.TheVariants.{Alu, Negate, Mov, SignExtend, Reorder, Wide, Load, Store, Jump, JumpLong, Branch, Exit}
use Rattle.bpf_model.specs.Words.{bytes_of, word_of}
use Rattle.bpf_model.specs.Arithmetic.{swap_bits, extension_bits}
use Rattle.bpf_model.specs.Spelling.{Fields, unit_bytes, imm_of, offset_of, fields_of, IsOffset, IsImmediate, IsOperand, IsInstruction}

-- the word of the bytes of a word is this word
pub word_of-bytes_of : (n w : ℕ) → w < 256 ^ n → word_of (bytes_of n w) ≡ w
unfolding bytes_of word_of
word_of-bytes_of zero w h = omega arith
word_of-bytes_of (suc n) w h =
    let more : 256 ^ suc n ≡ 256 * 256 ^ n = pow-succ' 256 n in
    let rest : word_of (bytes_of n (w / 256)) ≡ w / 256 = word_of-bytes_of n (w / 256) (omega arith) in
    omega (arith, rest)

-- fields that a unit can hold: two registers in a byte, and two signed numbers
pub record FitFields (f : Fields) : Type 0 where
  pub dst : f.dst < 16
  pub offset : IsOffset f.offset
  pub imm : IsImmediate f.imm

-- the fields that the first eight bytes spell
fields_at : List ℕ → Fields
fields_at bytes = record {
  opcode = get_or bytes 0 0;
  dst = get_or bytes 1 0 % 16;
  src = get_or bytes 1 0 / 16;
  offset = cast_signed w16 (word_of (take 2 (drop 2 bytes)));
  imm = cast_signed w32 (word_of (take 4 (drop 4 bytes)));
}

-- the fields of a unit's bytes are the unit's fields
fields_at-unit_bytes : (f : Fields) (rest : List ℕ) → FitFields f → fields_at (unit_bytes f ++ rest) ≡ f
unfolding bytes_of fields_at
fields_at-unit_bytes f rest fit =
    let dst : (16 * f.src + f.dst) % 16 ≡ f.dst = omega (arith, fit.dst) in
    let src : (16 * f.src + f.dst) / 16 ≡ f.src = omega (arith, fit.dst) in
    let offset : word_of (bytes_of 2 (cast_unsigned w16 f.offset)) ≡ cast_unsigned w16 f.offset = word_of-bytes_of 2 _ (Fits-of_z fit.offset).fits in
    let imm : word_of (bytes_of 4 (cast_unsigned w32 f.imm)) ≡ cast_unsigned w32 f.imm = word_of-bytes_of 4 _ (Fits-of_z fit.imm).fits in
    rw (dst, src, offset, imm, to_z-of_z w16 f.offset fit.offset, to_z-of_z w32 f.imm fit.imm) refl

-- bytes begin with one unit at most
pub unit_bytes-first : (f g : Fields) (xs ys : List ℕ) → FitFields f → FitFields g → unit_bytes f ++ xs ≡ unit_bytes g ++ ys → (f ≡ g) × (xs ≡ ys)
unit_bytes-first f g xs ys fit-f fit-g e =
    let same : f ≡ g = sym (fields_at-unit_bytes f xs fit-f) ∙ ap fields_at e ∙ fields_at-unit_bytes g ys fit-g in
    (same, append_cancel_left (unit_bytes f) xs ys (e ∙ ap (λ (x : Fields). unit_bytes x ++ ys) (sym same)))

-- ---- the fields of an instruction fit

pub zero_offset : IsOffset (pos 0)
zero_offset = record { sfits = omega arith }

zero_imm : IsImmediate (pos 0)
zero_imm = record { sfits = omega arith }

offset_fits : (op : AluOp) → IsOffset (offset_of op)
offset_fits SDiv = record { sfits = omega arith }
offset_fits SMod = record { sfits = omega arith }
offset_fits op = zero_offset

imm_fits : (src : Operand) → IsOperand src → IsImmediate (imm_of src)
imm_fits (Register r) h = zero_imm
imm_fits (Immediate imm) h = h

extension_fits : (extension : SignExtension) → IsOffset (pos (extension_bits extension))
extension_fits From8To32 = record { sfits = omega arith }
extension_fits From16To32 = record { sfits = omega arith }
extension_fits From8To64 = record { sfits = omega arith }
extension_fits From16To64 = record { sfits = omega arith }
extension_fits From32To64 = record { sfits = omega arith }

swap_fits : (size : SwapWidth) → IsImmediate (pos (swap_bits size))
swap_fits S16 = record { sfits = omega arith }
swap_fits S32 = record { sfits = omega arith }
swap_fits S64 = record { sfits = omega arith }

pub half_fits : (n : ℕ) → n < 2 ^ 32 → IsImmediate (cast_signed w32 n)
half_fits n h = sfits_to_z (record { fits = h })

pub fit-fields_of : (i : Insn) → IsInstruction i → FitFields (fields_of i)
fit-fields_of (Alu op width dst src) h = record { dst = omega (arith, h.0); offset = offset_fits op; imm = imm_fits src h.1 }
fit-fields_of (Negate width dst) h = record { dst = omega (arith, h); offset = zero_offset; imm = zero_imm }
fit-fields_of (Mov width dst src) h = record { dst = omega (arith, h.0); offset = zero_offset; imm = imm_fits src h.1 }
fit-fields_of (SignExtend extension dst src) h = record { dst = omega (arith, h.0); offset = extension_fits extension; imm = zero_imm }
fit-fields_of (Reorder order size dst) h = record { dst = omega (arith, h); offset = zero_offset; imm = swap_fits size }
fit-fields_of (Wide dst value) h = record { dst = omega (arith, h.0); offset = zero_offset; imm = half_fits (value % 2 ^ 32) (omega arith) }
fit-fields_of (Load kind dst src offset) h = record { dst = omega (arith, h.0); offset = h.2; imm = zero_imm }
fit-fields_of (Store size dst src offset) h = record { dst = omega (arith, h.0); offset = h.2; imm = imm_fits src h.1 }
fit-fields_of (Jump distance) h = record { dst = omega arith; offset = h; imm = zero_imm }
fit-fields_of (JumpLong distance) h = record { dst = omega arith; offset = zero_offset; imm = h }
fit-fields_of (Branch test width dst src distance) h = record { dst = omega (arith, h.0); offset = h.2; imm = imm_fits src h.1 }
fit-fields_of Exit h = record { dst = omega arith; offset = zero_offset; imm = zero_imm }
