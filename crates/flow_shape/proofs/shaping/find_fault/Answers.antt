use Rattle.std.proofs.Common.{length, refl, arith, add-one}
use Rattle.std.proofs.lemmas.Option.{slice_get_read}
use Rattle.bpf_model.proofs.ProgramLemmas.{starts_at}
use Rattle.flow_shape.proofs.LayoutLemmas.{next_inside}
use Rattle.flow_shape.proofs.FaultLemmas.{none_passed, more_passed, all_passed}
use Rattle.flow_shape.proofs.shaping.find_fault.Goals as goal

pub loop-insn-init : goal.loop-insn-init
loop-insn-init c = none_passed c.args.program.now

pub check-requires : goal.check-requires
check-requires c =
    let xs = c.args.program.now in
    let k = c.loop-insn.insn-index in
    let here = slice_get_read xs (length xs) k c.insn-item.result refl c.loop-insn-test.true c.insn-item.is in
    rw (c.new-layout.ensures, c.loop-insn.invariant.counted) (starts_at xs k c.insn-item.result here)

pub overflow_add-unit : goal.overflow_add-unit
overflow_add-unit c =
    let xs = c.args.program.now in
    let k = c.loop-insn.insn-index in
    let i = c.insn-item.result in
    let here = slice_get_read xs (length xs) k i refl c.loop-insn-test.true c.insn-item.is in
    omega (arith, c.requires.bounded, c.units-unit.ensures.value, next_inside xs k i c.loop-insn.unit here c.loop-insn.invariant.counted)

pub loop-insn-preserved : goal.loop-insn-preserved
loop-insn-preserved c =
    let xs = c.args.program.now in
    let k = c.loop-insn.insn-index in
    let i = c.insn-item.result in
    let here = slice_get_read xs (length xs) k i refl c.loop-insn-test.true c.insn-item.is in
    rw (add-one, c.units-unit.ensures.value) (more_passed xs k c.loop-insn.unit i here c.loop-insn.invariant (rw c.new-layout.ensures at c.in_ok-check.ensures.ok))

pub returns-clause-ok : goal.returns-clause-ok
returns-clause-ok c = all_passed c.args.program.now c.loop-insn.insn-index c.loop-insn.unit (omega arith) c.loop-insn.invariant
