-- the bytes of the word so far, and those of the rest
use Rattle.std.proofs.Common.{◌≡◌, ℕ, List, ◌++◌, length}
use Rattle.resp.proofs.QuoteLemmas.{GoesIn}
use Rattle.resp.proofs.quotes.quoted_at.Given as goal

abbrev pub invariant-loop-byte : goal.invariant-loop-byte
invariant-loop-byte l = (quoted : List ℕ) × (l.word.items ≡ l.fn.word.items ++ quoted) × GoesIn l.fn.quote l.fn.bytes quoted l.rest

abbrev pub decreases-loop-byte : goal.decreases-loop-byte
decreases-loop-byte l = length l.rest
