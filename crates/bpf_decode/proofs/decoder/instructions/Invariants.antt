use Rattle.std.proofs.Common.{◌≡◌, ◌≤◌, ◌/◌, ◌%◌, ◌++◌, length}
use Rattle.std.specs.Vec.{vec_capacity}
use Rattle.bpf_model.specs.Spelling.{AreInstructions, spelling_of_all}
use Rattle.bpf_decode.proofs.decoder.instructions.Given as goal

-- the bytes so far are the spelling of the instructions so far, and there is room for the rest, which has whole units
abbrev pub invariant-loop-unit : goal.invariant-loop-unit
invariant-loop-unit l = record {
  fits : AreInstructions l.instructions.items;
  spelled : l.bytes ≡ spelling_of_all l.instructions.items ++ l.rest;
  room : length l.bytes / 8 ≤ vec_capacity l.instructions;
  whole : length l.rest % 8 ≡ 0;
}

abbrev pub decreases-loop-unit : goal.decreases-loop-unit
decreases-loop-unit l = length l.rest
