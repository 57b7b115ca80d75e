use Rattle.std.proofs.Common.{◌≡◌, ◌≤◌, ◌*◌, take}
use Rattle.std.specs.Vec.{vec_capacity}
use Rattle.bpf_model.specs.Program.{unit_count}
use Rattle.bpf_model.specs.Spelling.{AreInstructions, spelling_of_all}
use Rattle.bpf_decode.proofs.encoder.encode.Given as goal

-- the instructions so far are spelled, and there is room for the rest
abbrev pub invariant-loop-insn : goal.invariant-loop-insn
invariant-loop-insn l = record {
  fits : AreInstructions (take l.insn-index l.instructions);
  spelled : l.bytes.items ≡ spelling_of_all (take l.insn-index l.instructions);
  room : 8 * unit_count l.instructions ≤ vec_capacity l.bytes;
}
