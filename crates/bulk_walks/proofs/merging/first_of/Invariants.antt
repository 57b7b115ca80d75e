use Rattle.bulk_walks.proofs.StandLemmas.{FirstOfAll}
use Rattle.bulk_walks.proofs.merging.first_of.Given as goal

-- the first item of the workers so far
abbrev pub invariant-loop-answers : goal.invariant-loop-answers
invariant-loop-answers l = FirstOfAll l.yielded l.first
