-- the units of the instructions so far, and those that are left
use Rattle.std.proofs.Common.{◌≡◌, ◌+◌, take}
use Rattle.bpf_model.specs.Program.{unit_count}
use Rattle.map_commands.proofs.meaning.instruction_at.Given as goal

abbrev pub invariant-loop-insn : goal.invariant-loop-insn
invariant-loop-insn l = unit_count (take l.insn-index l.program) + l.left ≡ l.unit
