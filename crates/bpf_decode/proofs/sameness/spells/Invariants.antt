use Rattle.std.proofs.Common.{◌≡◌, ◌++◌, take}
use Rattle.bpf_model.specs.Spelling.{AreInstructions, spelling_of_all}
use Rattle.bpf_decode.proofs.sameness.spells.Given as goal

-- the bytes so far are the spelling of the instructions so far
abbrev pub invariant-loop-insn : goal.invariant-loop-insn
invariant-loop-insn l = record {
  fits : AreInstructions (take l.insn-index l.program);
  spelled : l.bytes ≡ spelling_of_all (take l.insn-index l.program) ++ l.rest;
}
