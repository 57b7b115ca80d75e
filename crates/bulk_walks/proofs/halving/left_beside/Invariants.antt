use Rattle.std.proofs.Common.{◌≡◌, ◌+◌, length, sum_by, take}
use Rattle.bulk_walks.specs.Merges.{left_of}
use Rattle.bulk_walks.proofs.halving.left_beside.Given as goal

-- the items that are not in the lists so far
abbrev pub invariant-loop-rest : goal.invariant-loop-rest
invariant-loop-rest l = l.beside + sum_by (λ rest. length (left_of rest)) (take l.rest-index l.rests) ≡ l.all
