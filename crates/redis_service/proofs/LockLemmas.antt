-- Times of locks.
use Rattle.std.proofs.Common.{◌≡◌, ℕ, ℤ, pos, negsuc, true, FitsSigned, w64, List, sym, ◌∙◌, arith}
use lib.Signed.{lt_z}
use Rattle.std.specs.Fmt.{decimal, signed_decimal}
use Rattle.std.proofs.lemmas.Fmt.{signed_decimal_injective}

-- no number below 0 is written as one that is not
pub not_below_0 : (z : ℤ) (ms : ℕ) (word : List ℕ) → lt_z z (pos 0) ≡ true → FitsSigned w64 z → word ≡ signed_decimal z → FitsSigned w64 (pos ms) → word ≡ decimal ms → ⊥
not_below_0 (pos n) ms word less fits is fit same = absurd (grind (arith, less))
not_below_0 (negsuc n) ms word less fits is fit same =
    let e : negsuc n ≡ pos ms = signed_decimal_injective (negsuc n) (pos ms) (omega (arith, fits)) (omega (arith, fit)) (sym is ∙ same) in cc
