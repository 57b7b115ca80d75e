-- A program's text, with what the verifier knows beside each instruction.
use Rattle.std.specs.Prelude.{ℕ, zero, suc, List, [], ◌++◌, codes, decimal, Option, Some, None, take, slice_get, slice_index_or, replicate, if◌then◌else◌}
use Rattle.std.specs.Option.{option_map_or}
use Rattle.bpf_model.specs.declared.input.Sizes.{Sizes}
use Rattle.bpf_model.specs.declared.instruction.Insn.{Insn}
use Rattle.bpf_model.specs.declared.limits.TheConstants.{STACK_BYTES}
use Rattle.bpf_model.specs.declared.window.Window.TheVariants.{Result, Stack}
use Rattle.bpf_model.specs.Program.{unit_count}
use Rattle.bpf_assembler.specs.Text.{instruction_text}
use Rattle.stack_slots.specs.declared.reg_value.RegValue.{RegValue}
use Rattle.stack_slots.specs.declared.reg_value.RegValue.TheVariants.{Unwritten}
use Rattle.verifier.specs.declared.abstract_state.AbstractState.{AbstractState}
use Rattle.explanations.specs.Known.{value_text, is_same, bytes_below}

abbrev pub value_at : List RegValue → ℕ → RegValue
value_at values r = slice_index_or values r Unwritten

-- what is known of a register, unless it is what was known
abbrev pub told_register : List RegValue → List RegValue → ℕ → List ℕ
told_register before values r =
    if is_same (value_at before r) (value_at values r) then []
    else codes "; r" ++ decimal r ++ codes " is " ++ value_text (value_at values r)

unfoldable pub registers_below : List RegValue → List RegValue → ℕ → List ℕ
registers_below before values zero = []
registers_below before values (suc r) = registers_below before values r ++ told_register before values r

-- the registers of which something else is known than before, and the bytes that were written
abbrev pub state_text : Sizes → List RegValue → AbstractState → List ℕ
state_text sizes before a =
    registers_below before a.registers 11 ++ bytes_below a.frame Result sizes.result sizes.result ++ bytes_below a.frame Stack STACK_BYTES STACK_BYTES

-- nothing is told after the instruction that is refused
abbrev pub known_text : Sizes → List RegValue → Option (Option AbstractState) → List ℕ
known_text sizes before None = []
known_text sizes before (Some None) = codes "; no run comes here"
known_text sizes before (Some (Some a)) = state_text sizes before a

-- a line: the unit, the instruction's text, and what is known when a run comes to it
abbrev pub line_text : ℕ → List ℕ → Sizes → List RegValue → Option (Option AbstractState) → List ℕ
line_text unit instruction sizes before known = decimal unit ++ codes ": " ++ instruction ++ known_text sizes before known ++ codes "\n"

-- what is known of the registers if something is known
abbrev pub values_after : List RegValue → Option (Option AbstractState) → List RegValue
values_after before None = before
values_after before (Some None) = before
values_after before (Some (Some a)) = a.registers

-- what is known of the registers at the last of the first instructions of which something is known
unfoldable pub values_before : List (Option AbstractState) → ℕ → List RegValue
values_before states zero = replicate 11 Unwritten
values_before states (suc index) = values_after (values_before states index) (slice_get states index)

-- the line of the instruction at an index; there is none if no instruction is there
abbrev pub told_line : List Insn → List (Option AbstractState) → Sizes → ℕ → List ℕ
told_line program states sizes index =
    option_map_or (λ insn. line_text (unit_count (take index program)) (instruction_text insn) sizes (values_before states index) (slice_get states index)) (slice_get program index) []

-- the lines of the first instructions
unfoldable pub lines_below : List Insn → List (Option AbstractState) → Sizes → ℕ → List ℕ
lines_below program states sizes zero = []
lines_below program states sizes (suc index) = lines_below program states sizes index ++ told_line program states sizes index
