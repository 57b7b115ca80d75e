-- The halves of lying in a range, and a new signed bound.
use Rattle.std.proofs.Common.{ℕ, ℤ, SFits, to_z, of_z}
use Rattle.std.specs.Prelude.{◌≤ℤ◌}
use Rattle.std.specs.Int.{w64}
use Rattle.std.proofs.lemmas.Int.{to_z-of_z}
use Rattle.bpf_model.specs.Words.{signed}
use Rattle.value_ranges.specs.In.{IsWithinSigned, IsWithinUnsigned, IsWithinBoth}

pub unsigned_part : (x a b : ℕ) (c d : ℤ) → IsWithinBoth x a b c d → IsWithinUnsigned x a b
unsigned_part x a b c d p = record { word = p.word; umin = p.umin; umax = p.umax }

pub signed_part : (x a b : ℕ) (c d : ℤ) → IsWithinBoth x a b c d → IsWithinSigned x c d
signed_part x a b c d p = record { word = p.word; smin = p.smin; smax = p.smax }

-- the other signed bound stays
pub with_minimum : (x a b : ℕ) (c d low : ℤ) → SFits w64 d → IsWithinBoth x a b c d → low ≤ℤ signed x → IsWithinBoth x a b low (to_z w64 (of_z w64 d))
with_minimum x a b c d low fits p h = record { word = p.word; umin = p.umin; umax = p.umax; smin = h; smax = rw (to_z-of_z w64 d fits) p.smax }

pub with_maximum : (x a b : ℕ) (c d high : ℤ) → SFits w64 c → IsWithinBoth x a b c d → signed x ≤ℤ high → IsWithinBoth x a b (to_z w64 (of_z w64 c)) high
with_maximum x a b c d high fits p h = record { word = p.word; umin = p.umin; umax = p.umax; smin = rw (to_z-of_z w64 c fits) p.smin; smax = h }
