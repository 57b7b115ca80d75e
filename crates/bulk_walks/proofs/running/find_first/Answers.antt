use Rattle.std.proofs.Common.{◌≡◌, ℕ, ◌<◌, ◌∷◌, [], List, length, Some, true, false, Result, Ok, Err, Bool, option_copied, ap, sym, subst, ◌∙◌, arith}
use Rattle.bpf_model.specs.declared.input.InputPart.{InputPart}
use Rattle.bpf_model.specs.Fits.{input_of}
use Rattle.bins.specs.Table.{Entry}
use Rattle.bulk_walks.specs.Kept.{IsOffered}
use Rattle.bulk_walks.proofs.SearchLemmas.{searched_none, searched_given, searched_past, searched_unfit, same_offer, finds_first, Searched}
use Rattle.bulk_walks.proofs.running.find_first.Goals as goal
use Rattle.bulk_walks.proofs.running.find_first.Goals.{in-Ok-true, in-Ok-false, in-Err}

pub loop-position-init : goal.loop-position-init
loop-position-init c = record {
  searched = subst (λ (items : List Entry). Searched c.args.program.now c.args.arg.now c.args.entries.now items 0 0) (sym c.new-first.ensures) (searched_none c.args.program.now c.args.arg.now c.args.entries.now);
  bounded = omega arith;
}

-- one more entry: its answer is the first, or not, or the entry doesn't fit
pub loop-position-preserved : goal.loop-position-preserved
loop-position-preserved c =
    let before = c.loop-position.invariant in
    let checked = c.args.program.now in
    let arg = c.args.arg.now in
    let es = c.args.entries.now in
    let position = c.loop-position.position in
    let entry : Entry = (c.get.result.0.now, c.get.result.1.now) in
    let lt : position < length es = omega (arith, c.loop-position-test.true, c.len-position-end.ensures.value) in
    let offered = λ (r : Result Bool InputPart) (is : c.answer.result ≡ r). same_offer c.new-runner.result.program.now checked entry.0 entry.1 (option_copied c.new-runner.result.arg) arg c.is_after-wanted.result r c.answer.new.bench.answer c.new-runner.ensures.program c.new-runner.ensures.arg
    (subst (λ (r : Result Bool InputPart). IsOffered c.new-runner.result.program.now (input_of entry.0 (Some entry.1) (option_copied c.new-runner.result.arg)) c.is_after-wanted.result r c.answer.new.bench.answer) is c.answer.ensures.offered) in
    let would = c.is_after-wanted.ensures in
    elim c.match-answer.branch [
      | in-Ok-true w ↦ rw (w.first-is, w.unfit-is) (record {
        searched = subst (λ (items : List Entry). Searched checked arg es items _ _) (sym (w.set.ensures ∙ ap (λ (bytes : List ℕ). (entry.0, bytes) ∷ []) w.as_slice.ensures.value))
            (searched_given checked arg es _ position _ before.searched lt entry c.get.ensures.entry _ would c.answer.new.bench.answer (offered (Ok true) (w.in-Ok-true.is ∙ ap Ok w.in-Ok-true.field-0-test)));
        bounded = omega (arith, before.bounded);
      })
      | in-Ok-false w ↦ rw (w.first-is, w.unfit-is) (record {
        searched = searched_past checked arg es _ position _ before.searched lt entry c.get.ensures.entry _ would c.answer.new.bench.answer (offered (Ok false) (w.in-Ok-false.is ∙ ap Ok w.in-Ok-false.field-0-test));
        bounded = omega (arith, before.bounded);
      })
      | in-Err w ↦ rw (w.first-is, w.unfit-is) (record {
        searched = searched_unfit checked arg es _ position _ before.searched lt entry c.get.ensures.entry _ would c.answer.new.bench.answer w.in-Err.field-0 (offered (Err w.in-Err.field-0) w.in-Err.is);
        bounded = omega (arith, before.bounded);
      })
    ]

pub returns-clause-first : goal.returns-clause-first
returns-clause-first c = finds_first c.args.program.now c.args.arg.now c.args.entries.now _ c.loop-position.position _ c.loop-position.invariant.searched
    (omega (arith, c.loop-position-test.false, c.loop-position.auto.position-end, c.len-position-end.ensures.value))
