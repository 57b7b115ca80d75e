-- the units of the instructions so far, and those that are left
use Rattle.std.proofs.Common.{◌≡◌, ◌+◌, take}
use Rattle.bpf_model.specs.Program.{unit_count}
use Rattle.explanations.proofs.reason.index_at.Given as goal

abbrev pub invariant-loop-index : goal.invariant-loop-index
invariant-loop-index l = unit_count (take l.index l.program) + l.left ≡ l.unit
