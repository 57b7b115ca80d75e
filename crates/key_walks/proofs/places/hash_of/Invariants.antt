use Rattle.std.proofs.Common.{◌≡◌, drop}
use Rattle.std.specs.List.{fold}
use Rattle.key_walks.specs.Places.{fnv_more}
use Rattle.key_walks.proofs.places.hash_of.Given as goal

-- the bytes that are left complete the hash
abbrev pub invariant-loop-byte : goal.invariant-loop-byte
invariant-loop-byte l = fold fnv_more l.hash (drop l.byte-index l.key) ≡ fold fnv_more 2166136261 l.fn.key
