-- Reading a line from left to right up to the first fault: its name, the operands of each name, and its newline.
-- Text.antt is the grammar; this file and Operands.antt only decide which number a faulty line gets.
use Rattle.std.specs.Prelude.{◌≡◌, IfOk, ◌++◌, ℕ, ◌-◌, ◌^◌, Bool, not, ◌&&◌, List, [], ◌∷◌, length, take, drop, Option, Some, None, Result, Ok, Err, nat_eq, if◌then◌else◌, bytes_eq, option_map, option_and_then, find}
use Rattle.std.specs.Option.{option_or}
use Rattle.bpf_model.specs.declared.instruction.Operand.TheVariants.{Register, Immediate}
use Rattle.bpf_model.specs.declared.instruction.Insn.{Insn}
use Rattle.bpf_model.specs.declared.instruction.Insn.TheVariants as insn
use Rattle.bpf_model.specs.Spelling.{IsInstruction}
use Rattle.bpf_assembler.specs.declared.fault.LineFault.{LineFault}
use Rattle.bpf_assembler.specs.declared.fault.LineFault.TheVariants.{UnknownName, Trailing}
use Rattle.bpf_assembler.specs.declared.mnemonic.Stem.{Stem}
use Rattle.bpf_assembler.specs.declared.mnemonic.Stem.TheVariants as stem
use Rattle.bpf_assembler.specs.declared.mnemonic.Mnemonic.{Mnemonic}
use Rattle.bpf_assembler.specs.declared.mnemonic.Mnemonic.TheVariants.{Alu, Negate, Mov, SignExtend, Reorder, Wide, Load, Store, StoreImmediate, Jump, JumpLong, Branch, Exit}
use Rattle.bpf_assembler.specs.Text.{mnemonic_of, operands_of}
use Rattle.bpf_assembler.specs.Names.{width_word, swap_word, extension_word, size_word, kind_word, stem_word, widths, swap_widths, extensions, sizes, kinds, stems}
use Rattle.bpf_assembler.specs.Operands.{Read, ◌>>=◌, run, begins_with, byte_at, number_at, register_at, immediate_at, offset_at, operand_at, comma_at, dst_at, base_at, displacement_at}

-- if a call returned an instruction of this name, it took its operands
abbrev pub TakesOperands : Mnemonic → List ℕ → List ℕ → Result Insn LineFault → Type 0
TakesOperands m old new result = IfOk result (λ i. (old ≡ operands_of i ++ new) × (mnemonic_of i ≡ m) × IsInstruction i)

-- a name ends before a blank or a newline
abbrev pub is_name_byte : ℕ → Bool
is_name_byte c = not (nat_eq c 32) && not (nat_eq c 10)

-- the bytes after the front
unfoldable pub rest_after : List ℕ → List ℕ → Option (List ℕ)
rest_after front text = if bytes_eq (take (length front) text) front then Some (drop (length front) text) else None

-- the first that has this word
abbrev pub named_at : {A : Type 0} → (A → List ℕ) → List A → List ℕ → Option A
named_at word all text = find (λ x. bytes_eq (word x) text) all

-- the instruction with this word for the operation and this suffix
abbrev pub suffixed_at : Stem → List ℕ → Option Mnemonic
suffixed_at (stem.Alu op) text = option_map (λ w. Alu op w) (named_at width_word widths text)
suffixed_at stem.Negate text = option_map Negate (named_at width_word widths text)
suffixed_at stem.Mov text = option_map Mov (named_at width_word widths text)
suffixed_at stem.SignExtend text = option_map SignExtend (named_at extension_word extensions text)
suffixed_at (stem.Reorder order) text = option_map (λ w. Reorder order w) (named_at swap_word swap_widths text)
suffixed_at stem.Wide text = if nat_eq (length text) 0 then Some Wide else None
suffixed_at stem.Load text = option_map Load (named_at kind_word kinds text)
suffixed_at stem.Store text = option_map Store (named_at size_word sizes text)
suffixed_at stem.StoreImmediate text = option_map StoreImmediate (named_at size_word sizes text)
suffixed_at stem.Jump text = if nat_eq (length text) 0 then Some Jump else None
suffixed_at stem.JumpLong text = if nat_eq (length text) 0 then Some JumpLong else None
suffixed_at (stem.Branch test) text = option_map (λ w. Branch test w) (named_at width_word widths text)
suffixed_at stem.Exit text = if nat_eq (length text) 0 then Some Exit else None

-- the instruction made with the first operation's word that its name begins with
unfoldable pub mnemonic_at : List Stem → List ℕ → Option Mnemonic
mnemonic_at [] name = None
mnemonic_at (s ∷ others) name = option_or (option_and_then (suffixed_at s) (rest_after (stem_word s) name)) (mnemonic_at others name)

abbrev pub or_unknown : Option Mnemonic → List ℕ → Read Mnemonic
or_unknown None rest = Err UnknownName
or_unknown (Some m) rest = Ok (m, rest)

-- a name, all bytes up to a blank, a newline or the end
unfoldable pub name_at : List ℕ → Read Mnemonic
name_at text = or_unknown (mnemonic_at stems (take (run is_name_byte text) text)) (drop (run is_name_byte text) text)

-- the operands, with the blank before them
unfoldable pub operands_at : Mnemonic → List ℕ → Read Insn
operands_at (Alu op width) text = do
  dst ← dst_at text
  comma ← comma_at dst.1
  src ← operand_at comma.1
  Ok (insn.Alu op width dst.0 src.0, src.1)
operands_at (Negate width) text = do
  dst ← dst_at text
  Ok (insn.Negate width dst.0, dst.1)
operands_at (Mov width) text = do
  dst ← dst_at text
  comma ← comma_at dst.1
  src ← operand_at comma.1
  Ok (insn.Mov width dst.0 src.0, src.1)
operands_at (SignExtend extension) text = do
  dst ← dst_at text
  comma ← comma_at dst.1
  src ← register_at comma.1
  Ok (insn.SignExtend extension dst.0 src.0, src.1)
operands_at (Reorder order size) text = do
  dst ← dst_at text
  Ok (insn.Reorder order size dst.0, dst.1)
operands_at Wide text = do
  dst ← dst_at text
  comma ← comma_at dst.1
  value ← number_at (2 ^ 64 - 1) comma.1
  Ok (insn.Wide dst.0 value.0, value.1)
operands_at (Load kind) text = do
  dst ← dst_at text
  comma ← comma_at dst.1
  base ← base_at comma.1
  z ← displacement_at base.1
  Ok (insn.Load kind dst.0 base.0 z.0, z.1)
operands_at (Store size) text = do
  blank ← byte_at 32 text
  base ← base_at blank.1
  z ← displacement_at base.1
  comma ← comma_at z.1
  src ← register_at comma.1
  Ok (insn.Store size base.0 (Register src.0) z.0, src.1)
operands_at (StoreImmediate size) text = do
  blank ← byte_at 32 text
  base ← base_at blank.1
  z ← displacement_at base.1
  comma ← comma_at z.1
  imm ← immediate_at comma.1
  Ok (insn.Store size base.0 (Immediate imm.0) z.0, imm.1)
operands_at Jump text = do
  blank ← byte_at 32 text
  z ← offset_at (2 ^ 15) blank.1
  Ok (insn.Jump z.0, z.1)
operands_at JumpLong text = do
  blank ← byte_at 32 text
  z ← offset_at (2 ^ 31) blank.1
  Ok (insn.JumpLong z.0, z.1)
operands_at (Branch test width) text = do
  dst ← dst_at text
  comma ← comma_at dst.1
  src ← operand_at comma.1
  second ← comma_at src.1
  z ← offset_at (2 ^ 15) second.1
  Ok (insn.Branch test width dst.0 src.0 z.0, z.1)
operands_at Exit text = Ok (insn.Exit, text)

-- the end of a line: a newline
unfoldable pub newline_at : List ℕ → Read (Unit {0})
newline_at text = if begins_with 10 text then Ok (tt, drop 1 text) else Err Trailing

-- a line, with its newline
unfoldable pub line_at : List ℕ → Read Insn
line_at text = do
  mnemonic ← name_at text
  i ← operands_at mnemonic.0 mnemonic.1
  newline ← newline_at i.1
  Ok (i.0, newline.1)
