-- Wide instructions and their halves.
use Rattle.std.proofs.Common.{◌≡◌, ℕ, ◌+◌, ◌*◌, ◌/◌, ◌%◌, ◌^◌, ◌<◌, Bool, true, false, ◌&&◌, List, ◌++◌, refl, sym, ap, ◌∙◌, append_assoc, arith, ℤ, pos}
use Rattle.std.specs.Prelude.{nat_eq}
use Rattle.std.specs.Int.{w32, cast_signed, cast_unsigned}
use Rattle.std.proofs.Math.Facts.{Fits-of_z}
use Rattle.std.proofs.lemmas.Int.{to_z-of_z}
use Rattle.std.proofs.lemmas.Bool.Decides.{Decides-int_eq, nat_tests}
use Rattle.bpf_model.specs.declared.operations.Width.{Width}
use Rattle.bpf_model.specs.declared.operations.Width.TheVariants.{W32, W64}
use Rattle.bpf_model.specs.declared.instruction.Operand.{Operand}
use Rattle.bpf_model.specs.declared.instruction.Operand.TheVariants.{Register, Immediate}
use Rattle.bpf_model.specs.declared.instruction.Insn.{Insn}
use Rattle.bpf_model.specs.declared.instruction.Insn.TheVariants.{Alu, Negate, Mov, SignExtend, Reorder, Wide, Load, Store, Jump, JumpLong, Branch, Exit}
use Rattle.bpf_model.specs.Words.{IsWord}
use Rattle.bpf_model.specs.Accesses.{loaded_size}
use Rattle.bpf_model.specs.Arithmetic.{extension_width}
use Rattle.bpf_model.specs.Spelling.{Fields, opcode, access_opcode, class_ldx, alu_class, jump_class, store_class, source_x, source_k, source_bit, code_of, neg_code, mov_code, end_code, test_code, size_code, mode_mem, mode_of, order_source, order_width, unit_bytes, fields_of, second_unit, second_bytes, spelling, IsInstruction, IsImmediate}
use Rattle.bpf_decode.specs.Opcodes.{dst_and_imm, wide_opcode}
use Rattle.bpf_decode.specs.UnitFaults.{FitUnit, has_imm_alone}
use Rattle.bpf_decode.specs.OpcodeFields.{AreOperands}

-- fields are equal if each of them is
fields_are : (f : Fields) (opcode dst src : ℕ) (offset imm : ℤ) → f.opcode ≡ opcode → f.dst ≡ dst → f.src ≡ src → f.offset ≡ offset → f.imm ≡ imm
    → f ≡ record { opcode = opcode; dst = dst; src = src; offset = offset; imm = imm }
fields_are f opcode dst src offset imm a b c d e =
    ap (λ (n : ℕ). with_all n f.dst f.src f.offset f.imm) a ∙ ap (λ (n : ℕ). with_all opcode n f.src f.offset f.imm) b
    ∙ ap (λ (n : ℕ). with_all opcode dst n f.offset f.imm) c ∙ ap (λ (z : ℤ). with_all opcode dst src z f.imm) d ∙ ap (λ (z : ℤ). with_all opcode dst src offset z) e
  where
    with_all : ℕ → ℕ → ℕ → ℤ → ℤ → Fields
    with_all o d s z i = record { opcode = o; dst = d; src = s; offset = z; imm = i }

-- a number that fits is read back from its bytes
read_again : (n : ℕ) (imm : ℤ) → IsImmediate imm → n ≡ cast_unsigned w32 imm → imm ≡ cast_signed w32 n
read_again n imm fit e = sym (ap (cast_signed w32) e ∙ to_z-of_z w32 imm fit)

-- the first half's fields are those of the wide instruction
first_half : (f : Fields) (value : ℕ) → f.opcode ≡ wide_opcode → AreOperands dst_and_imm f → FitUnit f → value % 2 ^ 32 ≡ cast_unsigned w32 f.imm → f ≡ fields_of (Wide f.dst value)
first_half f value e h fit low = fields_are f wide_opcode f.dst 0 (pos 0) (cast_signed w32 (value % 2 ^ 32)) e refl h.src h.offset (read_again (value % 2 ^ 32) f.imm fit.imm low)

-- and so are the second's
second_half : (f : Fields) (value : ℕ) → has_imm_alone f ≡ true → FitUnit f → value / 2 ^ 32 ≡ cast_unsigned w32 f.imm → f ≡ second_unit value
second_half f value alone fit high =
    let opcode = both (nat_eq f.opcode 0) _ alone in
    let dst = both (nat_eq f.dst 0) _ opcode.1 in
    let src = both (nat_eq f.src 0) _ dst.1 in
    fields_are f 0 0 0 (pos 0) (cast_signed w32 (value / 2 ^ 32)) (is_zero f.opcode opcode.0) (is_zero f.dst dst.0) (is_zero f.src src.0)
    ((Decides-int_eq f.offset (pos 0)).0 src.1) (read_again (value / 2 ^ 32) f.imm fit.imm high)
  where
    both : (a b : Bool) → (a && b) ≡ true → (a ≡ true) × (b ≡ true)
    both true b e = (refl, e)
    both false b e = absurd cc

    is_zero : (n : ℕ) → nat_eq n 0 ≡ true → n ≡ 0
    is_zero n h = grind (arith, nat_tests)

-- two halves spell the wide instruction of their value
pub halves_spell : (first second : Fields) (dst value : ℕ) (after rest : List ℕ)
    → first.opcode ≡ wide_opcode → AreOperands dst_and_imm first → FitUnit first → FitUnit second → has_imm_alone second ≡ true
    → dst ≡ first.dst → value ≡ cast_unsigned w32 second.imm * 2 ^ 32 + cast_unsigned w32 first.imm → after ≡ unit_bytes second ++ rest
    → unit_bytes first ++ after ≡ spelling (Wide dst value) ++ rest
halves_spell first second dst value after rest e h fit fits alone d v a =
    let low : cast_unsigned w32 first.imm < 2 ^ 32 = (Fits-of_z fit.imm).fits in
    let one = first_half first value e h fit (omega (arith, v, low)) in
    let two = second_half second value alone fits (omega (arith, v, low)) in
    ap (λ (f : Fields). unit_bytes f ++ after) one ∙ ap (λ (x : List ℕ). unit_bytes (fields_of (Wide first.dst value)) ++ x) (a ∙ ap (λ (f : Fields). unit_bytes f ++ rest) two)
    ∙ sym (append_assoc (unit_bytes (fields_of (Wide first.dst value))) (unit_bytes (second_unit value)) rest)
    ∙ ap (λ (n : ℕ). spelling (Wide n value) ++ rest) (sym d)

-- no other instruction has the opcode
no_alu : (code source : ℕ) (w : Width) → opcode code source (alu_class w) ≡ wide_opcode → ⊥
no_alu code source W32 e = omega (arith, e)
no_alu code source W64 e = omega (arith, e)

no_jump : (code source : ℕ) (w : Width) → opcode code source (jump_class w) ≡ wide_opcode → ⊥
no_jump code source W32 e = omega (arith, e)
no_jump code source W64 e = omega (arith, e)

no_load : (mode size : ℕ) → access_opcode mode size class_ldx ≡ wide_opcode → ⊥
no_load mode size e = omega (arith, e)

no_store : (mode size : ℕ) (s : Operand) → access_opcode mode size (store_class s) ≡ wide_opcode → ⊥
no_store mode size (Register r) e = omega (arith, e)
no_store mode size (Immediate imm) e = omega (arith, e)

pub is_wide : (i : Insn) → IsInstruction i → (fields_of i).opcode ≡ wide_opcode → (value : ℕ) × IsWord value × (second_bytes i ≡ unit_bytes (second_unit value))
is_wide (Alu op w dst src) h e = absurd (no_alu (code_of op) (source_bit src) w e)
is_wide (Negate w dst) h e = absurd (no_alu neg_code source_k w e)
is_wide (Mov w dst src) h e = absurd (no_alu mov_code (source_bit src) w e)
is_wide (SignExtend x dst src) h e = absurd (no_alu mov_code source_x (extension_width x) e)
is_wide (Reorder order size dst) h e = absurd (no_alu end_code (order_source order) (order_width order) e)
is_wide (Wide dst value) h e = (value, h.1, refl)
is_wide (Load kind dst src offset) h e = absurd (no_load (mode_of kind) (size_code (loaded_size kind)) e)
is_wide (Store size dst src offset) h e = absurd (no_store mode_mem (size_code size) src e)
is_wide (Jump distance) h e = absurd (omega (arith, e))
is_wide (JumpLong distance) h e = absurd (omega (arith, e))
is_wide (Branch test w dst src distance) h e = absurd (no_jump (test_code test) (source_bit src) w e)
is_wide Exit h e = absurd (omega (arith, e))
