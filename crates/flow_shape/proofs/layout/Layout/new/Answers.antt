use Rattle.std.proofs.Common.{length, refl, arith, add-one}
use Rattle.std.proofs.lemmas.Option.{slice_get_read}
use Rattle.bpf_model.proofs.ProgramLemmas.{units_of-some}
use Rattle.flow_shape.proofs.LayoutLemmas.{none_marked, next_inside, more_marked, all_marked}
use Rattle.flow_shape.proofs.layout.Layout.new.Goals as goal

pub loop-insn-init : goal.loop-insn-init
loop-insn-init c = none_marked c.args.instructions.now

pub bounds-starts-total : goal.bounds-starts-total
bounds-starts-total c =
    let xs = c.args.instructions.now in
    let k = c.loop-insn.insn-index in
    let i = c.insn-item.result in
    let here = slice_get_read xs (length xs) k i refl c.loop-insn-test.true c.insn-item.is in
    omega (arith, c.requires.bounded, units_of-some i, next_inside xs k i c.loop-insn.total here c.loop-insn.invariant.counted)

pub overflow_add-total : goal.overflow_add-total
overflow_add-total c =
    let xs = c.args.instructions.now in
    let k = c.loop-insn.insn-index in
    let i = c.insn-item.result in
    let here = slice_get_read xs (length xs) k i refl c.loop-insn-test.true c.insn-item.is in
    omega (arith, c.requires.bounded, c.units-total.ensures.value, next_inside xs k i c.loop-insn.total here c.loop-insn.invariant.counted)

pub loop-insn-preserved : goal.loop-insn-preserved
loop-insn-preserved c =
    let xs = c.args.instructions.now in
    let k = c.loop-insn.insn-index in
    let i = c.insn-item.result in
    let here = slice_get_read xs (length xs) k i refl c.loop-insn-test.true c.insn-item.is in
    rw (add-one, c.units-total.ensures.value) (more_marked xs k i c.loop-insn.starts c.loop-insn.total c.requires.bounded here c.loop-insn.invariant)

pub invariant_of-result : goal.invariant_of-result
invariant_of-result c = all_marked c.args.instructions.now c.loop-insn.insn-index c.loop-insn.starts c.loop-insn.total c.requires.bounded (omega arith) c.loop-insn.invariant
