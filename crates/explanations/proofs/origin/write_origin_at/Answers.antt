use Rattle.std.proofs.Common.{append_assoc, arith}
use Rattle.bpf_model.proofs.ProgramLemmas.{unit_count-take}
use Rattle.explanations.proofs.ListingLemmas.{got}
use Rattle.explanations.proofs.origin.write_origin_at.Goals as goal

pub write_passes-requires-clause-written : goal.write_passes-requires-clause-written
write_passes-requires-clause-written c =
    omega (arith, unit_count-take c.args.before.now c.args.index, c.requires.units, c.count_units-written.ensures.value)

pub returns : goal.returns
returns c =
    let found = c.get.ensures.lookup in
    let seen = c.get-2.ensures.lookup in
    let insn = got c.args.before.now c.args.index c.get.result found.0 found.1 in
    let known = got c.args.states.now c.args.index c.get-2.result seen.0 seen.1 in
    simp append_assoc at (rw (c.in_ok-write_write.ensures, insn, known, c.count_units-written.ensures.value, c.count_units.ensures.value) at c.write_passes.ensures)
