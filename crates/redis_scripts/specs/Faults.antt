-- Why a text is refused as a script, and the text that tells it.
use Rattle.std.specs.Prelude.{◌≡◌, ◌%◌, ℕ, List, ◌++◌, length, true, false, codes, decimal}
use Rattle.std.specs.Str.{IsUtf8}
use Rattle.bpf_assembler.specs.declared.fault.AsmFault.{AsmFault}
use Rattle.bpf_assembler.specs.declared.fault.AsmFault.TheVariants as asm
use Rattle.bpf_assembler.specs.Faults.{IsFirstAsmFault, line_number}
use Rattle.admission.specs.Admissions.{IsNotAdmitted, greatest, admission_fault_number, admission_fault_unit}
use Rattle.redis_scripts.specs.declared.head.Head.{Head}
use Rattle.redis_scripts.specs.declared.fault.ScriptFault.{ScriptFault}
use Rattle.redis_scripts.specs.declared.fault.ScriptFault.TheVariants.{NotServed, MergesWithNow, NotText, OddDigits, Assembler, Admission, NoMemory}
use Rattle.redis_scripts.specs.Code.{first_line, other_lines, code_of_all, line_with_code}
use Rattle.redis_scripts.specs.Heads.{IsHead, merges_with_now}
use Rattle.redis_scripts.specs.Scripts.{is_hex, digits_in, GivesBytes}

-- the fault with another line's number
abbrev pub at_line : ℕ → AsmFault → AsmFault
at_line n asm.NoMemory = asm.NoMemory
at_line n (asm.UnknownName line) = asm.UnknownName n
at_line n (asm.BadOperand line) = asm.BadOperand n
at_line n (asm.OutOfRange line) = asm.OutOfRange n
at_line n (asm.Trailing line) = asm.Trailing n
at_line n (asm.BadCount line) = asm.BadCount n

-- the first fault of the lines after the first one. A line's number is the one that it has in the script, in which the first of these is 2
abbrev pub IsFaultOfCode : List (List ℕ) → ScriptFault → Type 0
IsFaultOfCode lines NotText = (is_hex (code_of_all lines) ≡ false) × (IsUtf8 (code_of_all lines) → ⊥)
IsFaultOfCode lines OddDigits = (is_hex (code_of_all lines) ≡ true) × (length (digits_in (code_of_all lines)) % 2 ≡ 1)
IsFaultOfCode lines (Assembler fault) =
    (is_hex (code_of_all lines) ≡ false)
    × ((first : AsmFault) × IsFirstAsmFault (code_of_all lines) first × (fault ≡ at_line (line_with_code 2 (line_number first) lines) first))
IsFaultOfCode lines NoMemory = Unit {0}
IsFaultOfCode lines NotServed = ⊥
IsFaultOfCode lines MergesWithNow = ⊥
IsFaultOfCode lines (Admission fault) = ⊥

-- the first line begins a script that is served, and says this
abbrev pub Begins : List ℕ → Head → Type 0
Begins text head = IsHead (first_line text) head × (merges_with_now head.method head.with_now ≡ false)

-- the first fault of the text. Want of memory says nothing of it
abbrev pub IsFaultOf : List ℕ → ScriptFault → Type 0
IsFaultOf text NotServed = (head : Head) → IsHead (first_line text) head → ⊥
IsFaultOf text MergesWithNow = (head : Head) × IsHead (first_line text) head × (merges_with_now head.method head.with_now ≡ true)
IsFaultOf text NotText = (head : Head) × Begins text head × IsFaultOfCode (other_lines text) NotText
IsFaultOf text OddDigits = (head : Head) × Begins text head × IsFaultOfCode (other_lines text) OddDigits
IsFaultOf text (Assembler fault) = (head : Head) × Begins text head × IsFaultOfCode (other_lines text) (Assembler fault)
IsFaultOf text (Admission fault) =
    (head : Head) × Begins text head
    × ((bytes : List ℕ) × GivesBytes (code_of_all (other_lines text)) bytes × IsNotAdmitted greatest bytes head.sizes fault)
IsFaultOf text NoMemory = Unit {0}

-- what is wrong with a line
abbrev pub line_fault_words : AsmFault → List ℕ
line_fault_words asm.NoMemory = codes "no memory"
line_fault_words (asm.UnknownName line) = codes "unknown instruction"
line_fault_words (asm.BadOperand line) = codes "bad operand"
line_fault_words (asm.OutOfRange line) = codes "number out of range"
line_fault_words (asm.Trailing line) = codes "something after the last operand"
line_fault_words (asm.BadCount line) = codes "more than 4096 units"

-- the line of an error that tells a client of the fault, without its mark and newline
abbrev pub fault_text : ScriptFault → List ℕ
fault_text NotServed = codes "ERR not a script that is served: its first line has to be '#!bpf METHOD REPLY KEY OLD ARGUMENT RESULT' (METHOD: compute, if-absent, if-present or merge; REPLY: bytes or integer; four sizes; the word 'with-now' may follow)"
fault_text MergesWithNow = codes "ERR a merge has no 'with-now': it stores its argument if there is no old value"
fault_text NotText = codes "ERR the script's code is not UTF-8"
fault_text OddDigits = codes "ERR the script has an odd number of hex digits"
fault_text (Assembler fault) = codes "ERR the script's line " ++ (decimal (line_number fault) ++ (codes ": " ++ line_fault_words fault))
fault_text (Admission fault) = codes "ERR the script is refused: " ++ (decimal (admission_fault_number fault) ++ (codes " at " ++ decimal (admission_fault_unit fault)))
fault_text NoMemory = codes "OOM command not allowed when used memory > 'maxmemory'."
