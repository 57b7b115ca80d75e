use Rattle.std.proofs.Common.{◌≡◌, ◌*◌, ◌≤◌, take}
use Rattle.bpf_model.specs.declared.limits.TheConstants.{PROGRAM_UNITS}
use Rattle.bpf_model.specs.Program.{unit_count}
use Rattle.bpf_model.proofs.program.Program.spelled_bytes.Given as goal

-- the bytes of the instructions so far
abbrev pub invariant-loop-insn : goal.invariant-loop-insn
invariant-loop-insn l = record {
  counted : l.bytes ≡ 8 * unit_count (take l.insn-index l.instructions);
  bounded : l.bytes ≤ 8 * PROGRAM_UNITS;
}
