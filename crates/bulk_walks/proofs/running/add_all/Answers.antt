use Rattle.std.proofs.Common.{◌≡◌, ℕ, ◌<◌, ◌++◌, ◌∷◌, [], List, length, Bool, true, false, Result, Ok, Err, refl, sym, ap, subst, ◌∙◌, arith, Some, option_copied}
use Rattle.bpf_model.specs.declared.input.InputPart.{InputPart}
use Rattle.bpf_model.specs.declared.input.Answer.TheVariants.{Nothing}
use Rattle.bpf_model.specs.Fits.{input_of}
use Rattle.bins.specs.Table.{Entry}
use Rattle.bins.specs.Replacements.{ComesTo}
use Rattle.atomic_methods.specs.declared.walk_reply.WalkKind.TheVariants.{ForEach}
use Rattle.atomic_methods.specs.Plans.{outcome_by}
use Rattle.atomic_methods.proofs.WalkLemmas.{walked_none, walked_given, walked_none_given}
use Rattle.std.proofs.lemmas.List.{append-nil, append_assoc}
use Rattle.bulk_walks.proofs.SearchLemmas.{runs_on_all, same_offer}
use Rattle.bulk_walks.proofs.GatherLemmas.{adds_all}
use Rattle.bulk_walks.proofs.running.add_all.Goals as goal
use Rattle.bulk_walks.proofs.running.add_all.Goals.{in-Ok-true+in_ok-keep-in-Ok-true, in-Ok-false, in-Err}

pub loop-position-init : goal.loop-position-init
loop-position-init c = record {
  more = [];
  walked = walked_none ForEach c.args.program.now c.args.arg.now c.args.entries.now [] refl;
  added = sym (append-nil c.args.items.now);
  bounded = omega arith;
}

-- one more entry: its answer is kept
pub loop-position-preserved : goal.loop-position-preserved
loop-position-preserved c =
    let before = c.loop-position.invariant in
    let checked = c.args.program.now in
    let arg = c.args.arg.now in
    let es = c.args.entries.now in
    let position = c.loop-position.position in
    let entry : Entry = (c.get.result.0.now, c.get.result.1.now) in
    let lt : position < length es = omega (arith, c.loop-position-test.true, c.len-count.ensures.value) in
    let offered = same_offer c.new-runner.result.program.now checked entry.0 entry.1 (option_copied c.new-runner.result.arg) arg true c.answer.result c.answer.new.bench.answer c.new-runner.ensures.program c.new-runner.ensures.arg c.answer.ensures.offered in
    let told = subst (λ o. ComesTo checked (input_of entry.0 (Some entry.1) arg) o) offered.tells offered.comes_to in
    let comes = λ (r : Result Bool InputPart) (is : c.answer.result ≡ r). subst (λ (r : Result Bool InputPart). ComesTo checked (input_of entry.0 (Some entry.1) arg) (outcome_by r c.answer.new.bench.answer)) is told in
    elim c.match-answer.branch [
      | in-Ok-true+in_ok-keep-in-Ok-true w ↦ rw (w.items-is, w.unfit-is) (record {
        more = before.more ++ (entry.0, c.answer.new.bench.answer) ∷ [];
        walked = walked_given ForEach checked arg es before.more position _ before.walked lt entry c.get.ensures.entry c.answer.new.bench.answer _
            (comes (Ok true) (w.in-Ok-true.is ∙ ap Ok w.in-Ok-true.field-0-test)) (λ found is. ap (λ (xs : List Entry). xs ++ (entry.0, c.answer.new.bench.answer) ∷ []) is);
        added = w.in_ok-keep-in-Ok-true.ensures.ok ∙ ap (λ (answer : List ℕ). c.loop-position.items ++ (entry.0, answer) ∷ []) w.as_slice.ensures.value
            ∙ ap (λ (xs : List Entry). xs ++ (entry.0, c.answer.new.bench.answer) ∷ []) before.added ∙ append_assoc c.args.items.now before.more ((entry.0, c.answer.new.bench.answer) ∷ []);
        bounded = omega (arith, before.bounded);
      })
      | in-Ok-false w ↦ rw (w.items-is, w.unfit-is) (record {
        more = before.more;
        added = before.added;
        walked = walked_none_given ForEach checked arg es _ position _ before.walked lt entry c.get.ensures.entry (Ok Nothing) false _
            (comes (Ok false) (w.in-Ok-false.is ∙ ap Ok w.in-Ok-false.field-0-test)) (λ key. refl) refl (omega arith);
        bounded = omega (arith, before.bounded);
      })
      | in-Err w ↦ rw (w.items-is, w.unfit-is) (record {
        more = before.more;
        added = before.added;
        walked = walked_none_given ForEach checked arg es _ position _ before.walked lt entry c.get.ensures.entry (Err w.in-Err.field-0) true _
            (comes (Err w.in-Err.field-0) w.in-Err.is) (λ key. refl) refl (omega arith);
        bounded = omega (arith, before.bounded);
      })
    ]

pub returns-clause-adds : goal.returns-clause-adds
returns-clause-adds c =
    let end = c.loop-position.invariant in
    adds_all c.args.program.now c.args.arg.now c.args.entries.now end.more c.args.items.now c.loop-position.items _
    (runs_on_all c.args.program.now c.args.arg.now c.args.entries.now end.more c.loop-position.position _ end.walked (omega (arith, c.loop-position-test.false, c.loop-position.auto.position-end, c.len-count.ensures.value))) end.added
