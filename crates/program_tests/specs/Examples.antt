-- The texts of small programs, and their sizes.
use Rattle.std.specs.Prelude.{ℕ, List, [], ◌∷◌, ℤ, pos, neg_ℤ}
use Rattle.bpf_model.specs.declared.input.Sizes.{Sizes}
use Rattle.bpf_model.specs.declared.accesses.AccessSize.{AccessSize}
use Rattle.bpf_model.specs.declared.accesses.AccessSize.TheVariants.{Byte, Word, DoubleWord}
use Rattle.bpf_model.specs.declared.accesses.LoadKind.TheVariants.{Byte as LoadByte}
use Rattle.bpf_model.specs.declared.conditions.JumpOp.TheVariants.{Eq}
use Rattle.bpf_model.specs.declared.operations.AluOp.TheVariants.{Add, And}
use Rattle.bpf_model.specs.declared.operations.Width.TheVariants.{W64}
use Rattle.bpf_model.specs.declared.instruction.Operand.TheVariants.{Register, Immediate}
use Rattle.bpf_model.specs.declared.instruction.Insn.{Insn}
use Rattle.bpf_model.specs.declared.instruction.Insn.TheVariants.{Alu, Mov, Load, Store, Jump, Branch, Exit}

-- the declared sizes of key, old value, argument and result
abbrev pub with_sizes : ℕ → ℕ → ℕ → ℕ → Sizes
with_sizes key old arg result = record { key = key; old = old; arg = arg; result = result }

-- stb [r4+offset], 1; mov64 r0, 1; exit
abbrev pub one_byte_at : ℤ → List Insn
one_byte_at offset = Store Byte 4 (Immediate (pos 1)) offset ∷ Mov W64 0 (Immediate (pos 1)) ∷ Exit ∷ []

-- jeq64 r6, 0, +2; std [r4+0], 1; ja +1; stw [r4+0], 1; mov64 r0, count; exit
abbrev pub two_ways_with : ℤ → List Insn
two_ways_with count =
    Branch Eq W64 6 (Immediate (pos 0)) (pos 2) ∷ Store DoubleWord 4 (Immediate (pos 1)) (pos 0) ∷ Jump (pos 1) ∷ Store Word 4 (Immediate (pos 1)) (pos 0) ∷ Mov W64 0 (Immediate count) ∷ Exit ∷ []

-- ldb r9, [r1+0]; mov64 r5, r2; and64 r9, 7; add64 r5, r9; ldb r0, [r5+0]; stxb [r4+0], r0; mov64 r0, 1; exit
abbrev pub masked_byte : List Insn
masked_byte =
    Load LoadByte 9 1 (pos 0) ∷ Mov W64 5 (Register 2) ∷ Alu And W64 9 (Immediate (pos 7)) ∷ Alu Add W64 5 (Register 9) ∷ Load LoadByte 0 5 (pos 0) ∷ Store Byte 4 (Register 0) (pos 0) ∷ Mov W64 0 (Immediate (pos 1)) ∷ Exit ∷ []

-- ja +2; mov64 r0, -2; exit; a store of 7 at r10-8, of this size; ldb r9, [r10-1]; mov64 r0, -1; exit
abbrev pub read_back : AccessSize → List Insn
read_back size =
    Jump (pos 2) ∷ Mov W64 0 (Immediate (neg_ℤ (pos 2))) ∷ Exit ∷ Store size 10 (Immediate (pos 7)) (neg_ℤ (pos 8)) ∷ Load LoadByte 9 10 (neg_ℤ (pos 1)) ∷ Mov W64 0 (Immediate (neg_ℤ (pos 1))) ∷ Exit ∷ []
