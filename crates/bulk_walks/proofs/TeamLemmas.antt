-- From each worker's work to the team's.
use Rattle.std.proofs.Common.{◌≡◌, ℕ, ◌^◌, ◌%◌, ◌<◌, ◌≤◌, ◌⊎◌, inl, inr, List, [], ◌∷◌, length, sum_by, get_or, slice_index_or, sym, ap, ◌∙◌, subst, arith}
use Rattle.std.proofs.lemmas.Bool.{cases_lt}
use Rattle.std.proofs.lemmas.List.{get_or_default}
use Rattle.stripe_rule.specs.declared.view.View.{View}
use Rattle.bins.specs.Table.{Entry}
use Rattle.atomic_methods.specs.Hashes.{IsStripeCount}
use Rattle.bin_stripes.specs.declared.ghost_action.GhostAction.{GhostAction}
use Rattle.bin_stripes.specs.Passes.{PassState}
use Rattle.bulk_walks.specs.Walks.{Events, Walked, AllWalked, Each, IsScan, sum_below}
use Rattle.bulk_walks.specs.Turns.{turn_sum, EachCounts}
use Rattle.bulk_walks.proofs.TurnLemmas.{walked_as}
use Rattle.bulk_walks.proofs.Sums.{turn_sum-same, sums_of_turns, bound_of_turns, sum_below-const}

-- a map has at most 64 stripes
pub at_most_64 : (n : ℕ) → IsStripeCount n → n ≤ 64
at_most_64 n is = is.1

-- if each worker knows its own value for each stripe of its turns, one function has all of them
module _ {X : Type 0} (blank : X) (workers : ℕ) where
  pick_by : (G : ℕ → (ℕ → X) → Type 0) → ((j : ℕ) → j < workers → (xs : ℕ → X) × G j xs) → (j : ℕ) → (j < workers) ⊎ (workers ≤ j) → ℕ → X
  pick_by G of j (inl low) = (of j low).0
  pick_by G of j (inr high) = λ _. blank

  good_by : (G : ℕ → (ℕ → X) → Type 0) (of : (j : ℕ) → j < workers → (xs : ℕ → X) × G j xs) (j : ℕ) (x : (j < workers) ⊎ (workers ≤ j)) → j < workers → G j (pick_by G of j x)
  unfolding pick_by
  good_by G of j (inl low) _ = (of j low).1
  good_by G of j (inr high) low = absurd (omega arith)

  pub together : (G : ℕ → (ℕ → X) → Type 0) → ((j : ℕ) → j < workers → (xs : ℕ → X) × G j xs)
      → (xs : ℕ → X) × ((j : ℕ) → j < workers → (own : ℕ → X) × (G j own × ((k : ℕ) → k % workers ≡ j → own k ≡ xs k)))
  together G of =
      let own : ℕ → ℕ → X = λ j. pick_by G of j (cases_lt j workers) in
      (λ k. own (k % workers) k, λ j low. (own j, (good_by G of j (cases_lt j workers) low, λ k turn. ap (λ m. own m k) (sym turn))))

-- if each worker made such events on its stripes, the team made them on all, whichever worker has which
module _ {X : Type 0} (Of : ℕ → X → View GhostAction → Events → Events → Type 0) (n : ℕ) (before after : List PassState) (d : PassState) where
  abbrev pub Turn : ℕ → (ℕ → X) → Type 0
  Turn j xs = Walked n (length before) j (Each Of xs) (slice_index_or before j d).view (slice_index_or after j d).view

  pub all_walked : length after ≡ length before → (xs : ℕ → X) → ((j : ℕ) → j < length before → (own : ℕ → X) × (Turn j own × ((k : ℕ) → k % length before ≡ j → own k ≡ xs k))) → AllWalked n (Each Of xs) before after
  all_walked order xs of = record {
    order = order;
    each = λ j e low.
        let had = of j low in
        let here : Walked n (length before) j (Each Of xs) (slice_index_or before j d).view (slice_index_or after j d).view =
        walked_as (length before) j (Each Of had.0) (Each Of xs) (slice_index_or before j d).view n (slice_index_or after j d).view had.1.0
        (λ k found more t made. subst (λ (x : X). Of k x (slice_index_or before j d).view found more) (had.1.1 k t.1) made) in
        let swap : (x y : PassState) → slice_index_or before j d ≡ x → slice_index_or after j d ≡ y → Walked n (length before) j (Each Of xs) x.view y.view =
        λ x y p q. subst (λ (y : PassState). Walked n (length before) j (Each Of xs) x.view y.view) q (subst (λ (x : PassState). Walked n (length before) j (Each Of xs) x.view (slice_index_or after j d).view) p here) in
        swap _ _ (get_or_default before j d e low) (get_or_default after j d e (omega arith));
  }

module _ (n : ℕ) (before : List PassState) (counts : List ℕ) (after : List PassState) (d : PassState) (some : 0 < length before) (did : EachCounts n before counts after) where
  -- the sum fits
  pub counts_fit : n ≤ 64 → sum_by (λ c. c) counts < 2 ^ 64
  counts_fit most =
      let below : (k : ℕ) → k < length counts → get_or counts k 0 ≤ turn_sum (length counts) k (λ _. 2 ^ 57) n =
      λ k low. subst (λ m. get_or counts k 0 ≤ turn_sum m k (λ _. 2 ^ 57) n) (sym did.answers) (did.each k d 0 (omega (arith, did.answers))).bounded in
      let all = bound_of_turns (λ c. c) counts (λ _. 2 ^ 57) n 0 (omega (arith, did.answers)) below in
      let top = sum_below-const n (2 ^ 57) in
      omega arith

  -- each stripe has its scan, and the sum is theirs
  pub counts_all : (scans : ℕ → List Entry) × (AllWalked n (Each IsScan scans) before after × (sum_by (λ c. c) counts ≡ sum_below n (λ k. length (scans k))))
  counts_all =
      let G : ℕ → (ℕ → List Entry) → Type 0 = λ j scans. Turn IsScan n before after d j scans × (get_or counts j 0 ≡ turn_sum (length before) j (λ k. length (scans k)) n) in
      let of : (j : ℕ) → j < length before → (scans : ℕ → List Entry) × G j scans = λ j low. let one = did.each j d 0 low in (one.scans, (one.walked, one.count_is)) in
      let all = together [] (length before) G of in
      let scans = all.0 in
      let sums : (j : ℕ) → j < length counts → get_or counts j 0 ≡ turn_sum (length counts) j (λ k. length (scans k)) n =
      λ j low.
      let had = all.1 j (omega (arith, did.answers)) in
      let same = turn_sum-same (length before) j (λ k. length (had.0 k)) (λ k. length (scans k)) n (λ k t. ap (λ (es : List Entry). length es) (had.1.1 k t.1)) in
      subst (λ m. get_or counts j 0 ≡ turn_sum m j (λ k. length (scans k)) n) (sym did.answers) (had.1.0.1 ∙ same) in (
        scans,
        (all_walked IsScan n before after d did.left scans (λ j low. let had = all.1 j low in (had.0, (had.1.0.0, had.1.1))), sums_of_turns (λ c. c) counts (λ k. length (scans k)) n 0 (omega (arith, did.answers)) sums),
      )

pub head_of : {X : Type 0} (xs : List X) → 0 < length xs → X
head_of [] some = absurd (omega arith)
head_of (x ∷ xs) some = x
