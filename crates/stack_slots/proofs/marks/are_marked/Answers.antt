use Rattle.std.proofs.Common.{◌/◌, ◌<◌, get_or, ◌^◌, inl, inr, arith, rules}
use Rattle.std.proofs.lemmas.Bool.{both_ways, cases_lt}
use Rattle.stack_slots.proofs.MarkLemmas.{gap_somewhere, no_gap}
use Rattle.stack_slots.proofs.marks.are_marked.Goals as goal

pub returns-then-between-words-ne0 : goal.returns-then-between-words-ne0
returns-then-between-words-ne0 c =
    let words = c.args.words.now in
    let j = c.loop-index.index in
    let word : get_or words j 0 < 2 ^ 64 = search rules in
    let gap = gap_somewhere words c.args.first c.args.end j c.between.result (search rules) word c.between.ensures.bits (omega arith) in
    record { exact = (λ no. absurd (search rules), λ each. absurd (both_ways _ gap.1.1.1 (each gap.0 gap.1.0 gap.1.1.0))) }

pub loop-index-preserved : goal.loop-index-preserved
loop-index-preserved c = λ i low high before.
    let words = c.args.words.now in
    let j = c.loop-index.index in
    let word : get_or words j 0 < 2 ^ 64 = search rules in
    elim (cases_lt (i / 64) j) [
      | inl lt ↦ c.loop-index.invariant i low high lt
      | inr le ↦ no_gap words c.args.first c.args.end j c.between.result word c.between.ensures.bits (omega arith) i low high (omega arith)
    ]
