use Rattle.std.proofs.Common.{◌∙◌, ◌++◌, ℕ, List, sym, length, refl, arith, add-one, append-nil, ap, string_bytes}
use Rattle.std.proofs.lemmas.Option.{slice_get_read}
use Rattle.bpf_model.specs.Program.{unit_count}
use Rattle.bpf_model.proofs.ProgramLemmas.{unit_count-next, unit_count-take}
use Rattle.explanations.specs.Origins.{passes_below}
use Rattle.explanations.proofs.ListingLemmas.{got, told_more}
use Rattle.explanations.proofs.OriginLemmas.{pass_is}
use Rattle.explanations.proofs.origin.write_passes.Goals as goal

pub loop-index-init : goal.loop-index-init
unfolding passes_below unit_count
loop-index-init c = record { counted = refl; told = sym (append-nil (string_bytes c.args.text.now)) }

pub write_pass-requires-clause-inside : goal.write_pass-requires-clause-inside
write_pass-requires-clause-inside c =
    let bounded = unit_count-take c.args.before.now c.loop-index.index in
    omega (arith, bounded, c.requires.units, c.loop-index.invariant.counted)

pub overflow_add-unit : goal.overflow_add-unit
overflow_add-unit c =
    let bounded = unit_count-take c.args.before.now c.loop-index.index in
    record { fits = omega (arith, bounded, c.requires.units, c.loop-index.invariant.counted, c.units-unit.ensures.bounded) }

pub loop-index-preserved : goal.loop-index-preserved
unfolding passes_below
loop-index-preserved c =
    let p = c.args.before.now in
    let states = c.args.states.now in
    let l = c.loop-index in
    let k = l.index in
    let i = c.index-before-index.result in
    let here = slice_get_read p (length p) k i refl c.loop-index-test.true c.index-before-index.is in
    let next = unit_count-next p k i here in
    let found = c.get.ensures.lookup in
    let known = got states k c.get.result found.0 found.1 in
    let piece = pass_is p states c.args.stretch k i l.unit _ here l.invariant.counted known in
    rw add-one record {
      counted = omega (arith, next, l.invariant.counted, c.units-unit.ensures.value);
      told = told_more _ _ _ _ _ l.invariant.told (c.in_ok-write_pass.ensures ∙ ap (λ (xs : List ℕ). string_bytes l.text ++ xs) piece);
    }
