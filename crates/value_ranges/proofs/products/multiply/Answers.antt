use Rattle.std.proofs.Common.{arith}
use Rattle.std.proofs.lemmas.Nat.{mod_below}
use Rattle.bpf_model.proofs.SignedLemmas.{modulus_most, modulus_some}
use Rattle.value_ranges.proofs.WordLemmas.{unsigned_part}
use Rattle.value_ranges.proofs.ProductLemmas.{product_within}
use Rattle.value_ranges.proofs.products.multiply.Goals as goal

pub returns-in-Some : goal.returns-in-Some
returns-in-Some c = λ x y p q. let h = c.in-Some.ensures in
    c.unsigned.ensures.holds _ (rw h.1 (product_within x y _ _ _ _ _ (modulus_most c.args.width) (unsigned_part x _ _ _ _ p) (unsigned_part y _ _ _ _ q) (omega (arith, h.1))))

pub returns-in_default : goal.returns-in_default
returns-in_default c = λ x y p q. c.any.ensures _ (mod_below _ _ (modulus_some c.args.width))
