use Rattle.std.proofs.Common.{SFits, to_z, of_z, rules, arith, ◌≡◌, ◌∙◌, ℤ}
use Rattle.std.specs.Prelude.{◌≤ℤ◌}
use Rattle.std.specs.Int.{w64, int_min, int_max}
use Rattle.std.proofs.lemmas.Int.{ints, to_z-of_z}
use Rattle.stack_slots.proofs.ValueLemmas.{min_above, max_below, min_first, max_first}
use Rattle.stack_slots.proofs.pointer.Pointer.over.Goals as goal

-- the bounds of two are read unchanged
reads_least : (a b r : ℤ) → SFits w64 a → SFits w64 b → SFits w64 r → r ≡ int_min (to_z w64 (of_z w64 a)) (to_z w64 (of_z w64 b)) → to_z w64 (of_z w64 r) ≡ int_min a b
reads_least a b r first second fits is = to_z-of_z w64 r fits ∙ (rw (to_z-of_z w64 a first, to_z-of_z w64 b second) at is)

reads_greatest : (a b r : ℤ) → SFits w64 a → SFits w64 b → SFits w64 r → r ≡ int_max (to_z w64 (of_z w64 a)) (to_z w64 (of_z w64 b)) → to_z w64 (of_z w64 r) ≡ int_max a b
reads_greatest a b r first second fits is = to_z-of_z w64 r fits ∙ (rw (to_z-of_z w64 a first, to_z-of_z w64 b second) at is)

ordered : (a b c d : ℤ) → a ≤ℤ c → int_min a b ≤ℤ int_max c d
ordered a b c d h = omega (arith, ints, min_first a b, h, max_first c d)

pub invariant_of-result : goal.invariant_of-result
invariant_of-result c =
    let p = c.args.self in
    let q = c.args.other in
    let low = reads_least p.least q.least c.min.result (search rules) (search rules) (search rules) c.min.ensures.value in
    let high = reads_greatest p.greatest q.greatest c.max.result (search rules) (search rules) (search rules) c.max.ensures.value in
    record {
      above = rw low (min_above p.least q.least _ p.above q.above);
      below = rw high (max_below p.greatest q.greatest _ p.below q.below);
      order = rw (low, high) (ordered p.least q.least p.greatest q.greatest p.order);
    }
