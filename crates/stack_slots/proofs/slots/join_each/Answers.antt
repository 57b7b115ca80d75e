use Rattle.std.proofs.Common.{◌≡◌, ◌≢◌, ◌<◌, ◌∙◌, None, get_or, length, refl, sym, arith, rules}
use Rattle.std.proofs.lemmas.List.{get_or_default, get_or-set_other}
use Rattle.stack_slots.proofs.MarkingLemmas.{slot_step}
use Rattle.stack_slots.proofs.slots.join_each.Goals as goal
use Rattle.stack_slots.proofs.slots.join_each.Goals.{then-is_some, else-is_some}

pub loop-index-preserved : goal.loop-index-preserved
loop-index-preserved c =
    let j = c.loop-index.index in
    let slots = c.loop-index.slots in
    let invariant = c.loop-index.invariant in
    let inside : j < length slots = omega arith in
    let mine : get_or slots j c.index-slots-index.result ≡ get_or c.args.slots.now j None = get_or_default slots j c.index-slots-index.result None inside ∙ invariant.rest j (omega arith) in
    elim c.if-is_some.branch [
      | then-is_some w ↦
          let theirs : w.index-other-index.result ≡ get_or c.args.other.now j None = w.index-other-index.is ∙ get_or_default c.args.other.now j w.index-other-index.result None (omega arith) in
          rw w.slots-is (record {
            done = slot_step c.args.slots.now c.args.other.now slots j w.joined.result inside invariant.done (rw (mine, theirs) at w.joined.ensures.exact);
            rest = λ i after. let other : i ≢ j = omega arith in get_or-set_other slots j i w.joined.result None other ∙ invariant.rest i (omega arith);
          })
      | else-is_some w ↦
          let none : get_or slots j c.index-slots-index.result ≡ None = search rules in
          let before : get_or c.args.slots.now j None ≡ None = sym mine ∙ none in
          rw w.slots-is (record {
            done = slot_step c.args.slots.now c.args.other.now slots j (get_or slots j c.index-slots-index.result) inside invariant.done (rw (before, none) refl);
            rest = λ i after. let other : i ≢ j = omega arith in get_or-set_other slots j i (get_or slots j c.index-slots-index.result) None other ∙ invariant.rest i (omega arith);
          })
    ]
