use Rattle.std.proofs.Common.{◌≡◌, length}
use Rattle.std.specs.List.{fold}
use Rattle.bins.specs.Hashes.{hash_more}
use Rattle.bins.proofs.hashes.hash_fours.Given as goal

-- the bytes that are left complete the hash
abbrev pub invariant-loop-rest : goal.invariant-loop-rest
invariant-loop-rest l = fold hash_more l.hash l.rest ≡ fold hash_more 1 l.fn.bytes

abbrev pub decreases-loop-rest : goal.decreases-loop-rest
decreases-loop-rest l = length l.rest
