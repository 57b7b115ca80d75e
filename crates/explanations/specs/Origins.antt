-- From which instructions a register has its value, in words.
use Rattle.std.specs.Prelude.{ℕ, zero, suc, Bool, true, false, ◌&&◌, List, [], ◌++◌, codes, decimal, nat_eq, nat_lt, Option, Some, None, take, length, slice_get, ℤ, pos, int_le, int_lt, if◌then◌else◌}
use Rattle.std.specs.Option.{option_map_or}
use Rattle.bpf_model.specs.declared.instruction.Insn.{Insn}
use Rattle.bpf_model.specs.Program.{unit_count}
use Rattle.bpf_assembler.specs.Text.{instruction_text}
use Rattle.flow_shape.specs.Jumps.{distance_of, target_of}
use Rattle.stack_slots.specs.declared.reg_value.RegValue.{RegValue}
use Rattle.stack_slots.specs.declared.reg_value.RegValue.TheVariants.{Unwritten, Number, Pointer}
use Rattle.verifier.specs.declared.abstract_state.AbstractState.{AbstractState}
use Rattle.verifier.specs.Instructions.{reads, written_by}
use Rattle.verifier.specs.Joins.{register}
use Rattle.explanations.specs.declared.origin.Stretch.{Stretch}
use Rattle.explanations.specs.Known.{name_text, value_text}

-- what was known of a register
abbrev pub was_text : ℕ → RegValue → List ℕ
was_text r value = codes "; r" ++ decimal r ++ codes " was " ++ value_text value

-- ---- the last write

abbrev pub writes : Insn → ℕ → Bool
writes i r = option_map_or (λ dst. nat_eq dst r) (written_by i) false

-- the instruction writes the register, and some run may come to it
abbrev pub is_write : Option Insn → Option (Option AbstractState) → ℕ → Bool
is_write None known r = false
is_write (Some i) None r = false
is_write (Some i) (Some None) r = false
is_write (Some i) (Some (Some a)) r = writes i r

-- the last of the first instructions that does
unfoldable pub last_write : List Insn → List (Option AbstractState) → ℕ → ℕ → Option ℕ
last_write before states r zero = None
last_write before states r (suc k) = if is_write (slice_get before k) (slice_get states k) r then Some k else last_write before states r k

-- what was known of a register, if the instruction reads it
abbrev pub operand_text : Insn → AbstractState → ℕ → List ℕ
operand_text i a r = if reads i r then was_text r (register a r) else []

-- so of the first registers
unfoldable pub operands_below : Insn → AbstractState → ℕ → List ℕ
operands_below i a zero = []
operands_below i a (suc r) = operands_below i a r ++ operand_text i a r

unfoldable pub wrote_text : ℕ → List ℕ
wrote_text unit = codes "; unit " ++ decimal unit ++ codes " wrote it last: "

-- the write, with its unit, its text and what it read
abbrev pub told_write : ℕ → Insn → AbstractState → List ℕ
told_write unit i a = wrote_text unit ++ instruction_text i ++ operands_below i a 11

abbrev pub write_text : ℕ → Option Insn → Option (Option AbstractState) → List ℕ
write_text unit None known = []
write_text unit (Some i) None = []
write_text unit (Some i) (Some None) = []
write_text unit (Some i) (Some (Some a)) = told_write unit i a

-- ---- registers that are read

abbrev pub is_unwritten : RegValue → Bool
is_unwritten Unwritten = true
is_unwritten (Number r) = false
is_unwritten (Pointer p) = false

-- an instruction reads a register that was perhaps not written
abbrev pub reads_unwritten : Insn → AbstractState → ℕ → Bool
reads_unwritten i a r = reads i r && is_unwritten (register a r)

-- the last of the first registers of which that holds
unfoldable pub unwritten_read : Insn → AbstractState → ℕ → Option ℕ
unwritten_read i a zero = None
unwritten_read i a (suc r) = if reads_unwritten i a r then Some r else unwritten_read i a r

-- ---- ways past it

-- a jump from before the write to behind it, and no further than to the read
abbrev pub is_past : Stretch → ℕ → ℤ → Bool
is_past s from target = nat_lt from s.written && (int_lt (pos s.written) target && int_le target (pos s.read))

abbrev pub passes : Stretch → ℕ → Insn → Bool
passes s from i = option_map_or (λ distance. is_past s from (target_of from distance)) (distance_of i) false

-- such a jump, and what was known of the register there
abbrev pub told_pass : Stretch → ℕ → Insn → AbstractState → List ℕ
told_pass s from i a =
    if passes s from i then codes "; unit " ++ decimal from ++ codes " jumps past that: " ++ instruction_text i ++ was_text s.register (register a s.register) else []

-- so if some run may come to it
abbrev pub pass_text : Stretch → ℕ → Insn → Option (Option AbstractState) → List ℕ
pass_text s from i None = []
pass_text s from i (Some None) = []
pass_text s from i (Some (Some a)) = told_pass s from i a

abbrev pub pass_at : List Insn → List (Option AbstractState) → Stretch → ℕ → List ℕ
pass_at before states s k = option_map_or (λ i. pass_text s (unit_count (take k before)) i (slice_get states k)) (slice_get before k) []

-- those among the first instructions
unfoldable pub passes_below : List Insn → List (Option AbstractState) → Stretch → ℕ → List ℕ
passes_below before states s zero = []
passes_below before states s (suc k) = passes_below before states s k ++ pass_at before states s k

-- ---- both

abbrev pub stretch : ℕ → ℕ → ℕ → Stretch
stretch r written read = record { register = r; written = written; read = read }

abbrev pub origin_of : List Insn → List (Option AbstractState) → ℕ → Option ℕ → List ℕ
origin_of before states r None = codes "; nothing above writes it"
origin_of before states r (Some k) =
    write_text (unit_count (take k before)) (slice_get before k) (slice_get states k)
    ++ passes_below before states (stretch r (unit_count (take k before)) (unit_count before)) (length before)

-- where a register's value comes from, on each way through these instructions to the one after them
unfoldable pub origin_text : List Insn → List (Option AbstractState) → ℕ → List ℕ
origin_text before states r = origin_of before states r (last_write before states r (length before))

-- what a register is, and where that comes from
abbrev pub register_text : List Insn → List (Option AbstractState) → ℕ → RegValue → List ℕ
register_text before states r value = name_text r ++ value_text value ++ origin_text before states r
