use Rattle.std.proofs.Common.{◌++◌, ◌∷◌, [], List, cond, sym, ap, ◌∙◌, subst}
use Rattle.bins.specs.Table.{Entry}
use Rattle.bulk_walks.proofs.StandLemmas.{FirstOfAll, first_of_none, first_of_more}
use Rattle.bulk_walks.proofs.merging.first_of.Goals as goal
use Rattle.bulk_walks.proofs.merging.first_of.Goals.{then-begins_before, else-begins_before}

pub loop-answers-init : goal.loop-answers-init
loop-answers-init c = subst (λ (es : List Entry). FirstOfAll [] es) (sym c.new-first.ensures) first_of_none

-- the items of one more worker come first, or they don't
pub loop-answers-preserved : goal.loop-answers-preserved
loop-answers-preserved c =
    let first = c.loop-answers.first in
    let a = c.in-Some.answers in
    let all = c.loop-answers.yielded ++ a ∷ [] in
    let more = first_of_more c.loop-answers.yielded a first c.loop-answers.invariant in
    elim c.if-begins_before.branch [
      | then-begins_before w ↦ subst (λ (es : List Entry). FirstOfAll all es) (ap (λ b. cond b a.items first) (sym c.begins_before.ensures ∙ w.if-begins_before.true) ∙ sym w.first-is) more
      | else-begins_before w ↦ subst (λ (es : List Entry). FirstOfAll all es) (ap (λ b. cond b a.items first) (sym c.begins_before.ensures ∙ w.if-begins_before.false) ∙ sym w.first-is) more
    ]
