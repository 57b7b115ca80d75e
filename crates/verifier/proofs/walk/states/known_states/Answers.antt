use Rattle.std.proofs.Common.{◌∙◌, List, subst}
use Rattle.std.specs.Prelude.{IfOk}
use Rattle.bpf_model.specs.declared.instruction.Insn.{Insn}
use Rattle.verifier.specs.Walks.{KnowsRuns}
use Rattle.verifier.proofs.walk.states.known_states.Goals as goal

pub returns-clause-sound : goal.returns-clause-sound
returns-clause-sound c =
    let same = c.instructions.ensures.value ∙ c.program.ensures.value in
    subst (λ (p : List Insn). IfOk c.states_of.result (λ states. KnowsRuns p states.items c.args.sizes)) same c.states_of.ensures.sound
