use Rattle.std.proofs.Common.{◌≡◌, ◌<◌, ℕ, ◌+◌, List, [], ◌∷◌, ◌++◌, length, arith, sym, ap, subst, ◌∙◌, Bool, true, false, Ok, length-append}
use Rattle.std.proofs.lemmas.List.{length-set}
use Rattle.bins.specs.KeptRows.{string_at}
use Rattle.bins.specs.Entries.{entries_in}
use Rattle.bins.specs.Replacements.{is_given, is_unfit}
use Rattle.bins.specs.Passes.{Replaces}
use Rattle.bins.proofs.ReplacementLemmas.{paired_outcomes, paired_entries, told_answer, told_part, count_one_more}
use Rattle.bins.proofs.PairedEntries.{paired-length}
use Rattle.bins.proofs.replacement.replace_rows.Goals as goal
use Rattle.bins.proofs.replacement.replace_rows.Goals.{in-Ok-true, in-Ok-false, in-Err}

pub replace_at-requires : goal.replace_at-requires
replace_at-requires c =
    let many = c.len-many.ensures.value in
    record { key = omega (arith, many, ap length c.loop-position.invariant.keys); value = omega (arith, many, c.loop-position.invariant.paired) }

-- this value was replaced too, and counted by the answer
pub loop-position-preserved : goal.loop-position-preserved
loop-position-preserved c =
    let before = c.loop-position.invariant in
    let told = λ (ks : List (List ℕ)). Replaces c.args.program.now (string_at ks c.loop-position.position) c.args.arg.now
    (string_at c.loop-position.rows.values c.loop-position.position) (string_at c.replace_at.new.rows.values c.loop-position.position) c.replace_at.result in
    let one = subst told before.keys c.replace_at.ensures.by_outcome in
    let inside : c.loop-position.position < length c.args.rows.now.keys = omega (arith, c.len-many.ensures.value) in
    let answered = λ (b : Bool) (x : Bool) (is : c.replace_at.result ≡ Ok x) (test : x ≡ b). told_answer one.outcome b (ap Ok (sym test) ∙ sym is ∙ one.is_told) in
    let given = count_one_more is_given before.outcomes one.outcome in
    let unfit = count_one_more is_unfit before.outcomes one.outcome in
    record {
      outcomes = before.outcomes ++ one.outcome ∷ [];
      one_each = length-append before.outcomes (one.outcome ∷ []) ∙ ap (λ (n : ℕ). n + 1) before.one_each;
      are_outcomes = paired_outcomes c.args.program.now c.args.arg.now c.args.rows.now.keys c.args.rows.now.values c.loop-position.rows.values before.outcomes before.entered _ before.one_each before.paired inside c.replace_at.new.rows.values _ one before.are_outcomes;
      keys = c.replace_at.ensures.keys ∙ before.keys;
      entered = paired_entries c.args.program.now c.args.arg.now c.args.rows.now.keys c.args.rows.now.values c.loop-position.rows.values before.outcomes before.entered _ before.one_each before.paired inside c.replace_at.new.rows.values _ one c.replace_at.ensures.others;
      paired = omega (arith, before.paired, ap length c.replace_at.ensures.others, length-set c.loop-position.rows.values c.loop-position.position (string_at c.replace_at.new.rows.values c.loop-position.position));
      given = elim c.match-replace_at.branch [
        | in-Ok-true w ↦ omega (arith, given true (answered true _ w.in-Ok-true.is w.in-Ok-true.field-0-test).0)
        | in-Ok-false w ↦ omega (arith, given false (answered false _ w.in-Ok-false.is w.in-Ok-false.field-0-test).0)
        | in-Err w ↦ omega (arith, given false (told_part one.outcome _ (sym w.in-Err.is ∙ one.is_told)).0)
      ];
      unfit = elim c.match-replace_at.branch [
        | in-Ok-true w ↦ omega (arith, unfit false (answered true _ w.in-Ok-true.is w.in-Ok-true.field-0-test).1)
        | in-Ok-false w ↦ omega (arith, unfit false (answered false _ w.in-Ok-false.is w.in-Ok-false.field-0-test).1)
        | in-Err w ↦ omega (arith, unfit true (told_part one.outcome _ (sym w.in-Err.is ∙ one.is_told)).1)
      ];
      bounded_given = elim c.match-replace_at.branch [ in-Ok-true w ↦ omega arith | in-Ok-false w ↦ omega arith | in-Err w ↦ omega arith ];
      bounded_unfit = elim c.match-replace_at.branch [ in-Ok-true w ↦ omega arith | in-Ok-false w ↦ omega arith | in-Err w ↦ omega arith ];
    }

-- all of the list was replaced
pub returns-clause-each : goal.returns-clause-each
returns-clause-each c =
    let done = c.loop-position.invariant in
    let many = paired-length c.args.rows.now.keys c.args.rows.now.values c.requires.paired in
    record {
      outcomes = done.outcomes;
      one_each = omega (arith, done.one_each, c.len-many.ensures.value, many);
      are_outcomes = done.are_outcomes;
      entered = ap (λ (ks : List (List ℕ)). entries_in ks c.loop-position.rows.values) done.keys ∙ done.entered;
      scanned = c.len-many.ensures.value ∙ sym many;
      given = done.given;
      unfit = done.unfit;
    }
