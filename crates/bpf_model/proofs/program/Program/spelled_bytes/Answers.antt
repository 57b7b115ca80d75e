use Rattle.std.proofs.Common.{◌≡◌, ◌*◌, suc, ap, take_all, length, take, refl, sym, ◌∙◌, arith, add-one}
use Rattle.std.proofs.lemmas.Option.{slice_get_read}
use Rattle.bpf_model.specs.Program.{unit_count}
use Rattle.bpf_model.specs.Spelling.{spelling_of_all}
use Rattle.bpf_model.proofs.ProgramLemmas.{unit_count-next, unit_count-take}
use Rattle.bpf_model.proofs.SpellingLaws.{length-spelling, length-spelling_of_all, spelled_once}
use Rattle.bpf_model.proofs.program.Program.spelled_bytes.Goals as goal

pub loop-insn-init : goal.loop-insn-init
unfolding unit_count
loop-insn-init c = record { counted = refl; bounded = omega arith }

pub loop-insn-preserved : goal.loop-insn-preserved
loop-insn-preserved c =
    let xs = c.instructions-instructions.result.now in
    let k = c.loop-insn.insn-index in
    let here = slice_get_read xs (length xs) k c.insn-item.result refl c.loop-insn-test.true c.insn-item.is in
    let next = unit_count-next xs k c.insn-item.result here in
    let part = unit_count-take xs (suc k) in
    let all = c.instructions-instructions.ensures.program.bounded in
    let read = c.spelled_bytes-bytes.ensures.value ∙ length-spelling c.insn-item.result in
    record { counted = rw add-one (omega (arith, next, read, c.loop-insn.invariant.counted)); bounded = omega (arith, next, read, part, all, c.loop-insn.invariant.counted) }

pub returns-clause-value : goal.returns-clause-value
returns-clause-value c =
    let xs = c.instructions-instructions.result.now in
    let whole : take c.loop-insn.insn-index xs ≡ xs = take_all c.loop-insn.insn-index xs (omega arith) in
    let counted = ap (λ k. 8 * unit_count k) whole in
    c.loop-insn.invariant.counted ∙ counted ∙ sym (length-spelling_of_all xs) ∙ ap (λ k. length (spelling_of_all k)) c.instructions-instructions.ensures.value

pub returns-clause-one_program : goal.returns-clause-one_program
returns-clause-one_program c text other is also = spelled_once text other c.args.self.now also is
