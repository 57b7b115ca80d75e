-- Which line of a text is the first faulty one, and its fault.
use Rattle.std.specs.Prelude.{◌≡◌, ℕ, zero, suc, codes, decimal, ◌+◌, ◌<◌, ◌≤◌, ◌⊎◌, List, [], ◌++◌, length, Ok, Err}
use Rattle.bpf_model.specs.declared.limits.TheConstants.{PROGRAM_UNITS}
use Rattle.bpf_model.specs.declared.instruction.Insn.{Insn}
use Rattle.bpf_model.specs.Program.{units_of, unit_count}
use Rattle.bpf_model.specs.Spelling.{IsInstruction, AreInstructions}
use Rattle.bpf_assembler.specs.declared.fault.AsmFault.{AsmFault}
use Rattle.bpf_assembler.specs.declared.fault.AsmFault.TheVariants.{NoMemory, UnknownName, BadOperand, OutOfRange, Trailing, BadCount}
use Rattle.bpf_assembler.specs.declared.fault.LineFault.{LineFault}
use Rattle.bpf_assembler.specs.declared.fault.LineFault.TheVariants as line
use Rattle.bpf_assembler.specs.Text.{line_of, text_of}
use Rattle.bpf_assembler.specs.Operands.{Read}
use Rattle.bpf_assembler.specs.Reading.{line_at}

-- the number with which a fault is printed
abbrev pub asm_fault_number : AsmFault → ℕ
asm_fault_number NoMemory = 9
asm_fault_number (UnknownName line) = 20
asm_fault_number (BadOperand line) = 21
asm_fault_number (OutOfRange line) = 22
asm_fault_number (Trailing line) = 23
asm_fault_number (BadCount line) = 24

-- the line that it names
abbrev pub line_number : AsmFault → ℕ
line_number NoMemory = 0
line_number (UnknownName line) = line
line_number (BadOperand line) = line
line_number (OutOfRange line) = line
line_number (Trailing line) = line
line_number (BadCount line) = line

-- the text of a fault
abbrev pub asm_fault_message : AsmFault → List ℕ
asm_fault_message NoMemory = codes "no memory"
asm_fault_message (UnknownName line) = codes "unknown name in line " ++ decimal line
asm_fault_message (BadOperand line) = codes "bad operand in line " ++ decimal line
asm_fault_message (OutOfRange line) = codes "number out of range in line " ++ decimal line
asm_fault_message (Trailing line) = codes "no newline after the last operand in line " ++ decimal line
asm_fault_message (BadCount zero) = codes "no line"
asm_fault_message (BadCount (suc n)) = codes "more than " ++ decimal PROGRAM_UNITS ++ codes " units in line " ++ decimal (suc n)

-- a fault of this line
abbrev pub at_line : ℕ → LineFault → AsmFault
at_line n line.UnknownName = UnknownName n
at_line n line.BadOperand = BadOperand n
at_line n line.OutOfRange = OutOfRange n
at_line n line.Trailing = Trailing n

-- the first fault in a line, read from left to right; a line without one can only pass the units
abbrev pub fault_in : Read Insn → ℕ → AsmFault
fault_in (Err fault) n = at_line n fault
fault_in (Ok read) n = BadCount n

-- after lines of instructions, of PROGRAM_UNITS units at most, comes a line that is no instruction's, or one whose
-- instruction passes PROGRAM_UNITS
pub record IsFaultyLine (text : List ℕ) (fault : AsmFault) : Type 0 where
  pub front : List Insn
  pub rest : List ℕ
  pub fits : AreInstructions front
  pub bounded : unit_count front ≤ PROGRAM_UNITS
  pub lines : text ≡ text_of front ++ rest
  pub some : 0 < length rest
  pub faulty : (i : Insn) (more : List ℕ) → IsInstruction i → rest ≡ line_of i ++ more → PROGRAM_UNITS < unit_count front + units_of i
  pub line : line_number fault ≡ length front + 1
  pub first : fault ≡ fault_in (line_at rest) (length front + 1)

-- the fault of the first faulty line; an empty text has its fault in line 0
abbrev pub IsFirstAsmFault : List ℕ → AsmFault → Type 0
IsFirstAsmFault text fault = ((text ≡ []) × (fault ≡ BadCount 0)) ⊎ IsFaultyLine text fault
