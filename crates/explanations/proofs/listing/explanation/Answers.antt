use Rattle.std.proofs.Common.{◌∙◌, length, refl, arith, add-one, string_bytes}
use Rattle.std.proofs.lemmas.Option.{slice_get_read}
use Rattle.bpf_model.specs.Program.{unit_count}
use Rattle.bpf_model.proofs.ProgramLemmas.{unit_count-next, unit_count-take}
use Rattle.explanations.specs.Listings.{lines_below, values_before}
use Rattle.explanations.proofs.ListingLemmas.{got, line_is, next_lines, next_values}
use Rattle.explanations.proofs.listing.explanation.Goals as goal

pub loop-index-init : goal.loop-index-init
unfolding lines_below values_before unit_count
loop-index-init c = record { counted = refl; values = refl; lines = c.new-text.ensures.bytes }

pub overflow_add-unit : goal.overflow_add-unit
overflow_add-unit c =
    let bounded = unit_count-take c.args.program.now c.loop-index.index in
    let most = c.requires.program.bounded in
    record { fits = omega (arith, bounded, most, c.loop-index.invariant.counted, c.units-unit.ensures.bounded) }

pub loop-index-preserved : goal.loop-index-preserved
loop-index-preserved c =
    let p = c.args.program.now in
    let states = c.args.states.now in
    let sizes = c.args.sizes in
    let l = c.loop-index in
    let k = l.index in
    let i = c.index-program-index.result in
    let here = slice_get_read p (length p) k i refl c.loop-index-test.true c.index-program-index.is in
    let next = unit_count-next p k i here in
    let found = c.get-known.ensures.lookup in
    let known = got states k c.get-known.result found.0 found.1 in
    let line = line_is p states sizes k i l.unit l.values _ _ here l.invariant.counted l.invariant.values known (c.deref.ensures ∙ c.in_ok-instruction.ensures.text) in
    rw add-one record {
      counted = omega (arith, next, l.invariant.counted, c.units-unit.ensures.value);
      values = next_values p states sizes k l.values _ _ l.invariant.values known c.values_after-values.ensures;
      lines = next_lines p states sizes k (string_bytes l.text) _ _ l.invariant.lines line c.in_ok-write_line.ensures;
    }
