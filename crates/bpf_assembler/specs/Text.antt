-- The canonical text of a program: one instruction per line. An instruction is a name and, if there are operands, one
-- blank and the operands, with a comma and one blank between them.
use Rattle.std.specs.Prelude.{◌≡◌, ℕ, suc, List, [], ◌++◌, codes, decimal, ℤ, pos, negsuc}
use Rattle.std.specs.List.{flat_map}
use Rattle.bpf_model.specs.declared.instruction.Operand.{Operand}
use Rattle.bpf_model.specs.declared.instruction.Operand.TheVariants.{Register, Immediate}
use Rattle.bpf_model.specs.declared.instruction.Insn.{Insn}
use Rattle.bpf_model.specs.declared.instruction.Insn.TheVariants as insn
use Rattle.bpf_model.specs.Program.{IsProgram}
use Rattle.bpf_model.specs.Spelling.{IsInstruction, AreInstructions}
use Rattle.bpf_assembler.specs.declared.mnemonic.Mnemonic.{Mnemonic}
use Rattle.bpf_assembler.specs.declared.mnemonic.Mnemonic.TheVariants.{Alu, Negate, Mov, SignExtend, Reorder, Wide, Load, Store, StoreImmediate, Jump, JumpLong, Branch, Exit}
use Rattle.bpf_assembler.specs.Names.{name_of}

-- an immediate: decimal, with a sign if it is negative
abbrev pub immediate : ℤ → List ℕ
immediate (pos n) = decimal n
immediate (negsuc n) = codes "-" ++ decimal (suc n)

-- an offset or a distance: decimal, always with a sign
abbrev pub offset : ℤ → List ℕ
offset (pos n) = codes "+" ++ decimal n
offset (negsuc n) = codes "-" ++ decimal (suc n)

abbrev pub register_text : ℕ → List ℕ
register_text r = codes "r" ++ decimal r

abbrev pub operand : Operand → List ℕ
operand (Register r) = register_text r
operand (Immediate imm) = immediate imm

-- the place in memory at an offset from a register
abbrev pub address_text : ℕ → ℤ → List ℕ
address_text r z = codes "[" ++ register_text r ++ offset z ++ codes "]"

-- an instruction without its operands
abbrev pub mnemonic_of : Insn → Mnemonic
mnemonic_of (insn.Alu op width dst src) = Alu op width
mnemonic_of (insn.Negate width dst) = Negate width
mnemonic_of (insn.Mov width dst src) = Mov width
mnemonic_of (insn.SignExtend extension dst src) = SignExtend extension
mnemonic_of (insn.Reorder order size dst) = Reorder order size
mnemonic_of (insn.Wide dst value) = Wide
mnemonic_of (insn.Load kind dst src z) = Load kind
mnemonic_of (insn.Store size dst (Register src) z) = Store size
mnemonic_of (insn.Store size dst (Immediate imm) z) = StoreImmediate size
mnemonic_of (insn.Jump distance) = Jump
mnemonic_of (insn.JumpLong distance) = JumpLong
mnemonic_of (insn.Branch test width dst src distance) = Branch test width
mnemonic_of insn.Exit = Exit

-- the operands, with the blank before them
unfoldable pub operands_of : Insn → List ℕ
operands_of (insn.Alu op width dst src) = codes " " ++ register_text dst ++ codes ", " ++ operand src
operands_of (insn.Negate width dst) = codes " " ++ register_text dst
operands_of (insn.Mov width dst src) = codes " " ++ register_text dst ++ codes ", " ++ operand src
operands_of (insn.SignExtend extension dst src) = codes " " ++ register_text dst ++ codes ", " ++ register_text src
operands_of (insn.Reorder order size dst) = codes " " ++ register_text dst
operands_of (insn.Wide dst value) = codes " " ++ register_text dst ++ codes ", " ++ decimal value
operands_of (insn.Load kind dst src z) = codes " " ++ register_text dst ++ codes ", " ++ address_text src z
operands_of (insn.Store size dst src z) = codes " " ++ address_text dst z ++ codes ", " ++ operand src
operands_of (insn.Jump distance) = codes " " ++ offset distance
operands_of (insn.JumpLong distance) = codes " " ++ offset distance
operands_of (insn.Branch test width dst src distance) = codes " " ++ register_text dst ++ codes ", " ++ operand src ++ codes ", " ++ offset distance
operands_of insn.Exit = []

-- an instruction's text: its line without the newline
abbrev pub instruction_text : Insn → List ℕ
instruction_text i = name_of (mnemonic_of i) ++ operands_of i

-- an instruction's line, with its newline
unfoldable pub line_of : Insn → List ℕ
line_of i = name_of (mnemonic_of i) ++ operands_of i ++ codes "\n"

unfoldable pub text_of : List Insn → List ℕ
text_of instructions = flat_map line_of instructions

-- the first line is an instruction's
pub record BeginsWithLine (text : List ℕ) : Type 0 where
  pub first : Insn
  pub rest : List ℕ
  pub fits : IsInstruction first
  pub line : text ≡ line_of first ++ rest

-- the text is the program's
pub record IsTextOf (text : List ℕ) (instructions : List Insn) : Type 0 where
  pub program : IsProgram instructions
  pub fits : AreInstructions instructions
  pub lines : text ≡ text_of instructions
