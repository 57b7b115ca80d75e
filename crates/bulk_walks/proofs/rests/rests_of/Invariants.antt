use Rattle.std.proofs.Common.{◌≡◌, map, take}
use Rattle.bulk_walks.specs.Merges.{whole_of}
use Rattle.bulk_walks.proofs.rests.rests_of.Given as goal

abbrev pub invariant-loop-answers : goal.invariant-loop-answers
invariant-loop-answers l = l.rests.items ≡ map whole_of (take l.answers-index l.all)
