-- The size that an index reports. Our profile decides which number of bins it reports.
use Rattle.std.specs.Prelude.{ℕ, ◌≤◌}
use Rattle.std.specs.Int.{IsPowerOfTwo}
use Rattle.bins.specs.declared.told_size.TheConstants.{FIRST_BINS, MOST_BINS}

-- there may be this many bins
abbrev pub IsBinCount : ℕ → Type 0
IsBinCount bins = IsPowerOfTwo bins × (FIRST_BINS ≤ bins) × (bins ≤ MOST_BINS)
