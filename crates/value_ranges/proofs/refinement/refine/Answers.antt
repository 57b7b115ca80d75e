use Rattle.value_ranges.proofs.ConditionLemmas.{holds_double}
use Rattle.value_ranges.proofs.refinement.refine.Goals as goal

pub returns-in-W64 : goal.returns-in-W64
returns-in-W64 c = λ x y p q h. let g = rw c.in-W64.is at h in c.refine_words.ensures x y p q (rw (← holds_double c.args.condition x y p.word q.word) g)
