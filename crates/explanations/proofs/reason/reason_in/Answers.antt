use Rattle.std.proofs.Common.{◌∙◌, string_bytes, arith}
use Rattle.bpf_model.proofs.ProgramLemmas.{unit_count-take}
use Rattle.explanations.proofs.ReasonLemmas.{told_in}
use Rattle.explanations.proofs.reason.reason_in.Goals as goal

pub reason_after-requires : goal.reason_after-requires
reason_after-requires c = record { units = omega (arith, unit_count-take c.args.program.now c.in-Some.index, c.requires.program.bounded) }

pub returns : goal.returns
returns c =
    let unit = c.in-Some.ensures.unit ∙ c.unit.ensures.value in
    told_in c.args.states.now c.args.sizes c.args.fault c.args.insn c.args.program.now c.in-Some.index c.in-Some.ensures.inside unit c.requires.known (λ text. string_bytes text)
    c.reason_after.result c.reason_after.ensures
