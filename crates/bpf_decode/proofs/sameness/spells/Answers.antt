use Rattle.bpf_decode.proofs.SamenessLemmas.{spelled_otherwise}
use Rattle.bpf_decode.proofs.sameness.spells.Goals as goal

pub returns-in_default : goal.returns-in_default
returns-in_default c =
    spelled_otherwise c.args.bytes.now c.loop-insn.rest.now c.instructions-insn-items.result.now c.args.program.now c.loop-insn.insn-index c.insn-item.result c.instructions-insn-items.ensures.value
    c.loop-insn-test.true c.insn-item.is (rw c.instructions-insn-items.ensures.value c.loop-insn.invariant.spelled) c.in_default.ensures.other
