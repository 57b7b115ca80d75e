use Rattle.std.proofs.Common.{◌≡◌, take}
use Rattle.bulk_walks.proofs.rests.copies_of.Given as goal

abbrev pub invariant-loop-rest : goal.invariant-loop-rest
invariant-loop-rest l = l.copies.items ≡ take l.rest-index l.rests
