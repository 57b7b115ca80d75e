use Rattle.std.proofs.Common.{◌≡◌, ◌≤◌, ◌++◌, length}
use Rattle.bpf_model.specs.declared.limits.TheConstants.{PROGRAM_UNITS}
use Rattle.bpf_model.specs.Program.{unit_count}
use Rattle.bpf_model.specs.Spelling.{AreInstructions}
use Rattle.bpf_assembler.specs.Text.{text_of}
use Rattle.bpf_assembler.proofs.assembler.instructions.Given as goal

-- the text read so far is the lines of the instructions so far
abbrev pub invariant-loop-cursor : goal.invariant-loop-cursor
invariant-loop-cursor l = record {
  fits : AreInstructions l.instructions.items;
  counted : l.units ≡ unit_count l.instructions.items;
  bounded : l.units ≤ PROGRAM_UNITS;
  lines : l.text ≡ text_of l.instructions.items ++ l.cursor.rest.now;
}

abbrev pub decreases-loop-cursor : goal.decreases-loop-cursor
decreases-loop-cursor l = length l.cursor.rest.now
