use Rattle.std.proofs.Common.{length, refl, arith, add-one}
use Rattle.std.proofs.lemmas.Option.{slice_get_read}
use Rattle.bpf_model.specs.Program.{unit_count}
use Rattle.bpf_model.proofs.ProgramLemmas.{unit_count-next}
use Rattle.explanations.proofs.reason.index_at.Goals as goal

pub loop-index-init : goal.loop-index-init
unfolding unit_count
loop-index-init c = omega arith

pub loop-index-preserved : goal.loop-index-preserved
loop-index-preserved c =
    let p = c.args.program.now in
    let k = c.loop-index.index in
    let i = c.index-program-index.result in
    let here = slice_get_read p (length p) k i refl c.loop-index-test.true c.index-program-index.is in
    let next = unit_count-next p k i here in
    rw (add-one, c.units-left.ensures.value) (omega (arith, next, c.loop-index.invariant, c.units.ensures.value, c.if-left-units.false))
