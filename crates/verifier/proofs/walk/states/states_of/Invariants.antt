use Rattle.std.proofs.Common.{◌≡◌, length, take}
use Rattle.bpf_model.specs.Program.{unit_count}
use Rattle.verifier.specs.Plain.{IsPlain}
use Rattle.verifier.specs.Grants.{GrantsAll}
use Rattle.verifier.specs.Walks.{IsKnown, KnowsRuns}
use Rattle.verifier.proofs.WalkLemmas.{Walked}
use Rattle.verifier.proofs.walk.states.states_of.Given as goal

abbrev pub invariant-loop-insn : goal.invariant-loop-insn
invariant-loop-insn l = record {
  counted : l.unit ≡ unit_count (take l.insn-index l.program);
  listed : length l.states.items ≡ l.insn-index;
  walked : Walked l.program l.sizes l.unit (IsKnown l.unit l.state l.pending l.sizes);
  knows : KnowsRuns l.program l.states.items l.sizes;
  granted : IsPlain l.program l.sizes → GrantsAll l.program l.unit l.state l.pending;
}
