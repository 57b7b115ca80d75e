use Rattle.std.proofs.Common.{length, refl, arith, add-one}
use Rattle.std.proofs.lemmas.Option.{slice_get_read}
use Rattle.bpf_model.specs.Program.{unit_count}
use Rattle.bpf_model.proofs.ProgramLemmas.{unit_count-next}
use Rattle.bpf_model.proofs.instruction.Insn.count_units.Goals as goal

pub loop-insn-init : goal.loop-insn-init
unfolding unit_count
loop-insn-init c = record { counted = refl; bounded = omega arith }

pub loop-insn-preserved : goal.loop-insn-preserved
loop-insn-preserved c =
    let xs = c.args.instructions.now in
    let k = c.loop-insn.insn-index in
    let here = slice_get_read xs (length xs) k c.insn-item.result refl c.loop-insn-test.true c.insn-item.is in
    let next = unit_count-next xs k c.insn-item.result here in
    record { counted = rw add-one (omega (arith, next)); bounded = omega arith }
