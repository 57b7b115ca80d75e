-- the jumps so far
use Rattle.std.proofs.Common.{◌≡◌, ◌++◌, take, string_bytes}
use Rattle.bpf_model.specs.Program.{unit_count}
use Rattle.explanations.specs.Origins.{passes_below}
use Rattle.explanations.proofs.origin.write_passes.Given as goal

abbrev pub invariant-loop-index : goal.invariant-loop-index
invariant-loop-index l = record {
  counted : l.unit ≡ unit_count (take l.index l.before);
  told : string_bytes l.text ≡ string_bytes l.initial.text ++ passes_below l.before l.states l.stretch l.index;
}
