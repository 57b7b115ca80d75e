use Rattle.std.proofs.Common.{◌≡◌, length, replicate, All}
use Rattle.stripe_rule.specs.Words.{words_of}
use Rattle.bin_stripes.specs.Holding.{IsEmptyBins}
use Rattle.bin_stripes.proofs.open.free_stripes.Given as goal

abbrev pub invariant-loop : goal.invariant-loop
invariant-loop g l = (l.words.items ≡ replicate (words_of l.stripes) 0) × (length l.slots.items ≡ l.counter) × All (IsEmptyBins g.B.Bins.table) l.slots.items
