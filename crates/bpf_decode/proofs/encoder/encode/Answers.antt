use Rattle.std.proofs.Common.{length, refl}
use Rattle.std.specs.Vec.{vec_capacity}
use Rattle.std.proofs.lemmas.Option.{slice_get_read}
use Rattle.bpf_decode.proofs.SpellingLemmas.{room_for_next}
use Rattle.bpf_decode.proofs.encoder.encode.Goals as goal

pub write-requires : goal.write-requires
write-requires c =
    let xs = c.instructions-instructions.result.now in
    let k = c.loop-insn.insn-index in
    let here = slice_get_read xs (length xs) k c.insn-item.result refl c.loop-insn-test.true c.insn-item.is in
    room_for_next xs k c.insn-item.result c.loop-insn.bytes.items (vec_capacity c.loop-insn.bytes) here c.loop-insn.invariant.spelled c.loop-insn.invariant.room
