use Rattle.std.proofs.Common.{rules, ◌≡◌, ℕ, ◌+◌, [], ◌∷◌, ◌++◌, arith, sym, ap, ◌∙◌, Bool, true, false, Ok, length-append}
use Rattle.std.proofs.lemmas.Grind.{common_steps}
use Rattle.bins.specs.Replacements.{is_given, is_unfit}
use Rattle.bins.proofs.ReplacementLemmas.{outcomes_grow, entries_grow, told_answer, told_part, count_one_more}
use Rattle.bins.proofs.replacement.replace_values.Goals as goal
use Rattle.bins.proofs.replacement.replace_values.Goals.{in-Ok-true, in-Ok-false, in-Err}

-- this entry was replaced too, and counted by the answer
pub loop-entry-preserved : goal.loop-entry-preserved
loop-entry-preserved c =
    let before = c.loop-entry.invariant in
    let one = c.replace_value.ensures.by_outcome in
    let answered = λ (b : Bool) (x : Bool) (is : c.replace_value.result ≡ Ok x) (test : x ≡ b). told_answer one.outcome b (ap Ok (sym test) ∙ sym is ∙ one.is_told) in
    let given = count_one_more is_given before.outcomes one.outcome in
    let unfit = count_one_more is_unfit before.outcomes one.outcome in
    record {
      outcomes = before.outcomes ++ one.outcome ∷ [];
      one_each = length-append before.outcomes (one.outcome ∷ []) ∙ ap (λ (n : ℕ). n + 1) before.one_each;
      are_outcomes = outcomes_grow c.args.program.now c.args.arg.now _ _ _ before.entered _ before.one_each (omega arith) _ _ before.are_outcomes one.comes_to;
      entered = entries_grow c.args.program.now c.args.arg.now _ _ _ before.entered _ before.one_each (omega arith) _ _ _ one.entered;
      given = elim c.match-replace_value.branch [
        | in-Ok-true w ↦ omega (arith, given true (answered true _ w.in-Ok-true.is w.in-Ok-true.field-0-test).0)
        | in-Ok-false w ↦ omega (arith, given false (answered false _ w.in-Ok-false.is w.in-Ok-false.field-0-test).0)
        | in-Err w ↦ omega (arith, given false (told_part one.outcome _ (sym w.in-Err.is ∙ one.is_told)).0)
      ];
      unfit = elim c.match-replace_value.branch [
        | in-Ok-true w ↦ omega (arith, unfit false (answered true _ w.in-Ok-true.is w.in-Ok-true.field-0-test).1)
        | in-Ok-false w ↦ omega (arith, unfit false (answered false _ w.in-Ok-false.is w.in-Ok-false.field-0-test).1)
        | in-Err w ↦ omega (arith, unfit true (told_part one.outcome _ (sym w.in-Err.is ∙ one.is_told)).1)
      ];
      bounded_given = elim c.match-replace_value.branch [ in-Ok-true w ↦ omega arith | in-Ok-false w ↦ omega arith | in-Err w ↦ omega arith ];
      bounded_unfit = elim c.match-replace_value.branch [ in-Ok-true w ↦ omega arith | in-Ok-false w ↦ omega arith | in-Err w ↦ omega arith ];
    }

-- all of the list was replaced
pub returns-clause-each : goal.returns-clause-each
returns-clause-each c =
    let done = c.loop-entry.invariant in
    record {
      outcomes = done.outcomes;
      one_each = search rules;
      are_outcomes = done.are_outcomes;
      entered = grind (arith, common_steps);
      scanned = search rules;
      given = done.given;
      unfit = done.unfit;
    }
