use Rattle.std.proofs.Common.{refl, subst}
use Rattle.bpf_model.specs.declared.input.Sizes.{Sizes}
use Rattle.bpf_model.specs.Meaning.{Means}
use Rattle.map_commands.proofs.commands.run_once.Goals as goal

pub returns-in-Ok-clause-ok : goal.returns-in-Ok-clause-ok
returns-in-Ok-clause-ok c =
    let program = c.in_ok-verified.verified.program in
    let input = c.in_ok-input.input in
    let means = subst (λ (sizes : Sizes). Means program sizes input c.run.result) c.in_ok-verified.ensures.sizes c.run.ensures in
    (program, c.in_ok-verified.ensures.ok, (input, c.in_ok-input.ensures.ok, c.in-Ok.ensures.ok.0 refl, means))
