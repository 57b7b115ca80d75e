-- The scans fix the entries in key order.
use Rattle.std.proofs.Common.{◌≡◌, ℕ, zero, suc, ◌<◌, List, sum_by, refl, sym, ap, ◌∙◌, arith}
use Rattle.bins.specs.Table.{Entry}
use Rattle.bins.proofs.SameEntries.{same_entries}
use Rattle.bulk_walks.specs.Walks.{sum_below, IsInOrder}

pub sum_below-same : (n : ℕ) (f g : ℕ → ℕ) → ((k : ℕ) → k < n → f k ≡ g k) → sum_below n f ≡ sum_below n g
sum_below-same zero f g same = refl
sum_below-same (suc n) f g same =
    let before = sum_below-same n f g (λ k low. same k (omega arith)) in
    let here = same n (omega arith) in
    omega (arith, before, here)

-- the same scans have the same entries in key order
pub same_order : (n : ℕ) (scans others : ℕ → List Entry) (es fs : List Entry) → ((k : ℕ) → k < n → scans k ≡ others k) → IsInOrder n scans es → IsInOrder n others fs → es ≡ fs
same_order n scans others es fs same one other = same_entries es fs one.order other.order (λ weight.
    one.all weight ∙ sum_below-same n _ _ (λ k low. ap (λ (xs : List Entry). sum_by weight xs) (same k low)) ∙ sym (other.all weight))
