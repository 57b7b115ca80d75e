use Rattle.std.proofs.Common.{◌≡◌, ◌*◌, ◌+◌, ◌-◌, ◌<◌, ◌^◌, ◌∙◌, sym, ap, ℕ, get_or, inl, inr, arith}
use Rattle.std.proofs.lemmas.Bool.{cases_lt}
use Rattle.stack_slots.specs.Marks.{is_marked}
use Rattle.stack_slots.proofs.MarkLemmas.{all_marked, marked_up_to, gap_after, none_past}
use Rattle.stack_slots.proofs.marks.prefix.Goals as goal

pub returns-then-word-clause-marked : goal.returns-then-word-clause-marked
returns-then-word-clause-marked c = λ i below.
    let words = c.args.words.now in
    let j = c.loop-index.index in
    let small : get_or words j 0 + 1 < 2 ^ 64 = omega (arith, (c.type_inv.words j).fits, c.if-word.true) in
    elim (cases_lt i (64 * j)) [
      | inl lt ↦ c.loop-index.invariant i lt
      | inr le ↦
          let place : 64 * j + (i - 64 * j) ≡ i = omega (arith, le) in
          ap (is_marked words) (sym place) ∙ marked_up_to words j (i - 64 * j) small (omega (arith, le, below, c.trailing_ones.ensures))
    ]

pub returns-then-word-clause-greatest : goal.returns-then-word-clause-greatest
returns-then-word-clause-greatest c =
    let words = c.args.words.now in
    let j = c.loop-index.index in
    let small : get_or words j 0 + 1 < 2 ^ 64 = omega (arith, (c.type_inv.words j).fits, c.if-word.true) in
    ap (λ (n : ℕ). is_marked words (64 * j + n)) c.trailing_ones.ensures ∙ gap_after words j small

pub loop-index-preserved : goal.loop-index-preserved
loop-index-preserved c = λ i below.
    let words = c.args.words.now in
    let j = c.loop-index.index in
    elim (cases_lt i (64 * j)) [
      | inl lt ↦ c.loop-index.invariant i lt
      | inr le ↦ all_marked words j i c.if-word.false (omega arith)
    ]

pub returns-clause-greatest : goal.returns-clause-greatest
returns-clause-greatest c = none_past c.args.words.now _ (omega arith)
