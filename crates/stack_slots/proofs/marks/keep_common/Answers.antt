use Rattle.std.proofs.Common.{◌≡◌, ◌/◌, ◌&&◌, ◌∙◌, sym, ap, Bool, false, ◌≢◌, inl, inr, arith}
use Rattle.std.proofs.lemmas.Bool.{cases_lt, cases_eq}
use Rattle.stack_slots.specs.Marks.{is_marked}
use Rattle.stack_slots.proofs.MarkLemmas.{marked-common, marked-set_other, none_past}
use Rattle.stack_slots.proofs.marks.keep_common.Goals as goal

pub loop-index-preserved : goal.loop-index-preserved
loop-index-preserved c =
    let words = c.loop-index.words in
    let j = c.loop-index.index in
    record {
      done = λ i before. elim (cases_eq (i / 64) j) [
        | inl here ↦ marked-common words c.args.other.now j i (omega arith) here ∙ ap (λ (t : Bool). t && is_marked c.args.other.now i) (c.loop-index.invariant.rest i (omega arith))
        | inr other ↦ marked-set_other words j _ i other ∙ c.loop-index.invariant.done i (omega arith)
      ];
      rest = λ i after. let other : i / 64 ≢ j = omega arith in marked-set_other words j _ i other ∙ c.loop-index.invariant.rest i (omega arith);
    }

pub returns : goal.returns
returns c = record {
  exact = λ i. elim (cases_lt (i / 64) c.loop-index.index) [
    | inl lt ↦ c.loop-index.invariant.done i lt
    | inr le ↦
        let first = none_past c.loop-index.words i (omega arith) in
        let second : is_marked c.args.words.now i ≡ false = none_past c.args.words.now i (omega arith) in
        first ∙ sym (ap (λ (t : Bool). t && is_marked c.args.other.now i) second)
  ];
}
