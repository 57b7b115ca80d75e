use Rattle.std.proofs.Common.{◌≡◌}
use Rattle.bulk_walks.specs.Kept.{lists_of_all}
use Rattle.bulk_walks.proofs.merging.lists_in.Given as goal

-- the items of the workers so far
abbrev pub invariant-loop-answers : goal.invariant-loop-answers
invariant-loop-answers l = l.lists.items ≡ lists_of_all l.yielded
