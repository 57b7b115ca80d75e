-- Which registers an instruction reads and writes, and where it loads and stores. RFC 9669, sections 4 and 5.
use Rattle.std.specs.Prelude.{ℕ, ◌^◌, Bool, false, ◌||◌, Option, Some, None, nat_eq, ℤ, pos, neg_ℤ, ◌≤ℤ◌}
use Rattle.bpf_model.specs.declared.instruction.Operand.{Operand}
use Rattle.bpf_model.specs.declared.instruction.Operand.TheVariants.{Register, Immediate}
use Rattle.bpf_model.specs.declared.instruction.Insn.{Insn}
use Rattle.bpf_model.specs.declared.instruction.Insn.TheVariants.{Alu, Negate, Mov, SignExtend, Reorder, Wide, Load, Store, Jump, JumpLong, Branch, Exit}
use Rattle.bpf_model.specs.Accesses.{byte_count, loaded_size}

-- whether an operand or an instruction reads a register
abbrev pub operand_reads : Operand → ℕ → Bool
operand_reads (Register src) r = nat_eq src r
operand_reads (Immediate imm) r = false

abbrev pub reads : Insn → ℕ → Bool
reads (Alu op width dst src) r = nat_eq dst r || operand_reads src r
reads (Negate width dst) r = nat_eq dst r
reads (Mov width dst src) r = operand_reads src r
reads (SignExtend extension dst src) r = nat_eq src r
reads (Reorder order size dst) r = nat_eq dst r
reads (Wide dst value) r = false
reads (Load kind dst src offset) r = nat_eq src r
reads (Store size dst src offset) r = nat_eq dst r || operand_reads src r
reads (Jump distance) r = false
reads (JumpLong distance) r = false
reads (Branch test width dst src distance) r = nat_eq dst r || operand_reads src r
reads Exit r = nat_eq 0 r

-- the register that an instruction writes
abbrev pub written_by : Insn → Option ℕ
written_by (Alu op width dst src) = Some dst
written_by (Negate width dst) = Some dst
written_by (Mov width dst src) = Some dst
written_by (SignExtend extension dst src) = Some dst
written_by (Reorder order size dst) = Some dst
written_by (Wide dst value) = Some dst
written_by (Load kind dst src offset) = Some dst
written_by (Store size dst src offset) = None
written_by (Jump distance) = None
written_by (JumpLong distance) = None
written_by (Branch test width dst src distance) = None
written_by Exit = None

-- an access of this many bytes, through a register, at an offset
pub record Touch : Type 0 where
  pub base : ℕ
  pub offset : ℤ
  pub count : ℕ

abbrev pub load_of : Insn → Option Touch
load_of (Load kind dst src offset) = Some (record { base = src; offset = offset; count = byte_count (loaded_size kind) })
load_of other = None

abbrev pub store_of : Insn → Option Touch
store_of (Store size dst src offset) = Some (record { base = dst; offset = offset; count = byte_count size })
store_of other = None

-- an offset has 16 bits, so it is at least this
abbrev pub IsAboveLeastOffset : ℤ → Type 0
IsAboveLeastOffset offset = neg_ℤ (pos (2 ^ 15)) ≤ℤ offset
