-- A key is at most once in the scans of all stripes.
use Rattle.std.proofs.Common.{◌≡◌, ◌≢◌, ℕ, zero, suc, ◌<◌, ◌≤◌, List, [], ◌∷◌, sum_by, All, refl, sym, ap, ◌∙◌, inl, inr, arith}
use Rattle.std.specs.declared.cmp.Ordering.TheVariants.{Less, Equal, Greater}
use Rattle.std.specs.FinMap.{slice_cmp-IsAntisymmetric, nat_cmp-IsAntisymmetric}
use Rattle.std.proofs.lemmas.List.Sums.{sum_by-cons}
use Rattle.std.proofs.lemmas.List.Elements.{All-head, All-tail}
use Rattle.std.proofs.lemmas.Bool.{cases_eq}
use Rattle.bins.specs.Table.{Entry, by_bytes}
use Rattle.bins.proofs.SameEntries.{one_if, at_key, at_most_once}
use Rattle.atomic_methods.specs.Hashes.{stripe_of}
use Rattle.bin_stripes.specs.Invoked.{AreOf}
use Rattle.bulk_walks.specs.Walks.{sum_below}

sum_below-none : (n : ℕ) (f : ℕ → ℕ) → ((k : ℕ) → k < n → f k ≡ 0) → sum_below n f ≡ 0
sum_below-none zero f z = refl
sum_below-none (suc n) f z = let r = sum_below-none n f (λ k low. z k (omega arith)) in let h = z n (omega arith) in omega (arith, r, h)

sum_below-one : (n : ℕ) (f : ℕ → ℕ) (j : ℕ) → ((k : ℕ) → k < n → k ≢ j → f k ≡ 0) → ((k : ℕ) → k < n → f k ≤ 1) → sum_below n f ≤ 1
sum_below-one zero f j z one = omega arith
sum_below-one (suc n) f j z one =
    elim (cases_eq n j) [
      | inl e ↦ let r = sum_below-none n f (λ k low. z k (omega arith) (λ s. omega arith)) in let h = one n (omega arith) in omega (arith, r, h)
      | inr ne ↦ let r = sum_below-one n f j (λ k low. z k (omega arith)) (λ k low. one k (omega arith)) in let h = z n (omega arith) ne in omega (arith, r, h)
    ]

-- a key of another stripe is not there
elsewhere : (n k : ℕ) (key : List ℕ) (es : List Entry) → All (λ e. stripe_of n e.0 ≡ k) es → k ≢ stripe_of n key → sum_by (at_key key) es ≡ 0
elsewhere n k key [] of ne = refl
elsewhere n k key (e ∷ es) of ne =
    let rest = elsewhere n k key es (All-tail (λ (x : Entry). stripe_of n x.0 ≡ k) e es of) ne in
    let here : at_key key e ≡ 0 =
    elim (by_bytes key e.0) as (λ r. by_bytes key e.0 ≡ r → one_if r ≡ 0) [
      | Less ↦ λ p. refl
      | Equal ↦ λ p. absurd (ne (sym (All-head (λ (x : Entry). stripe_of n x.0 ≡ k) e es of) ∙ ap (λ (b : List ℕ). stripe_of n b) (sym (slice_cmp-IsAntisymmetric nat_cmp-IsAntisymmetric key e.0 p))))
      | Greater ↦ λ p. refl
    ] refl in
    let c = sum_by-cons (at_key key) e es in
    omega (arith, rest, here, c)

-- so a key is at most once in all scans
pub once_in_all : (n : ℕ) (scans : ℕ → List Entry) (total : (Entry → ℕ) → ℕ) → ((k : ℕ) → k < n → AreOf n k (scans k)) → ((h : Entry → ℕ) → total h ≡ sum_below n (λ k. sum_by h (scans k))) → (key : List ℕ) → total (at_key key) ≤ 1
once_in_all n scans total are all key =
    let one = sum_below-one n (λ k. sum_by (at_key key) (scans k)) (stripe_of n key) (λ k low ne. elsewhere n k key (scans k) (are k low).stripe ne) (λ k low. at_most_once key (scans k) (are k low).order) in
    let a = all (at_key key) in
    omega (arith, one, a)
