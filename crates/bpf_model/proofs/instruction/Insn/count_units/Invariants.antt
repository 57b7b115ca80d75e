use Rattle.std.proofs.Common.{◌≡◌, ◌*◌, ◌≤◌, take}
use Rattle.bpf_model.specs.Program.{unit_count}
use Rattle.bpf_model.proofs.instruction.Insn.count_units.Given as goal

-- the units of the instructions so far
abbrev pub invariant-loop-insn : goal.invariant-loop-insn
invariant-loop-insn l = record {
  counted : l.units ≡ unit_count (take l.insn-index l.instructions);
  bounded : l.units ≤ 2 * l.insn-index;
}
