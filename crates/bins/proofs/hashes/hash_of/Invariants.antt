use Rattle.std.proofs.Common.{◌≡◌, drop}
use Rattle.std.specs.List.{fold}
use Rattle.bins.specs.Hashes.{hash_more}
use Rattle.bins.proofs.hashes.hash_of.Given as goal

-- the bytes that are left complete the hash
abbrev pub invariant-loop-byte : goal.invariant-loop-byte
invariant-loop-byte l = fold hash_more l.hash (drop l.byte-index l.rest) ≡ fold hash_more 1 l.fn.key
