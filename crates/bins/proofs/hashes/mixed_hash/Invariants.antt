use Rattle.std.proofs.Common.{◌≡◌}
use Rattle.bins.specs.Mixed.{after_words}
use Rattle.bins.proofs.hashes.mixed_hash.Given as goal

-- the words so far are in the hash
abbrev pub invariant-loop-number : goal.invariant-loop-number
invariant-loop-number l = l.hash ≡ after_words l.seed l.key l.number
