-- A pass takes every stripe, and so learns the final table of each.
use Rattle.std.proofs.Common.{◌≡◌, ℕ, ◌+◌, ◌<◌, true, List, [], ◌∷◌, ◌++◌, get_or, refl, sym, ap, ◌∙◌, subst, arith, append-nil}
use Rattle.std.proofs.lemmas.List.{get_or_push, get_or_append_left, length_push}
use mathlib.Core.Logic.{dite}
use native.Mathlib.Decide.{ℕ_discrete}
use Rattle.stripe_rule.specs.declared.view.Event.{Event}
use Rattle.stripe_rule.specs.declared.view.Part.{Part}
use Rattle.stripe_rule.specs.declared.view.View.{View}
use Rattle.stripe_rule.specs.History.{AreBelow, Replays}
use Rattle.stripe_rule.specs.Gains.{seen_of, Carries, IsSound}
use Rattle.stripe_rule.specs.Steps.{Extends, HasTaken}
use Rattle.stripe_rule.proofs.HistoryLemmas.{IsBelow, All-back}
use Rattle.stripe_rule.proofs.LastLemmas.{nothing_between}
use Rattle.stripe_rule.proofs.CallLemmas.{gains_none, gains_more}

module _ {D T : Type 0} (does : ℕ → T → D → T → Type 0) (empty : T) where
  pub taken_none : (v : View D) → HasTaken does empty v 0 [] v
  taken_none v = record { numbers = refl; passes = refl; count = refl; held = λ k _. refl; gains = λ k. gains_none v v k refl refl; left = λ k d less. absurd (omega arith) }

  -- the next stripe is taken, and its bins hold this table
  pub taken_more : (v w u : View D) (n : ℕ) (tables : List T) (table : T) → HasTaken does empty v n tables w → Extends w n true u → Replays (does n) empty (seen_of u n) table → HasTaken does empty v (n + 1) (tables ++ table ∷ []) u
  taken_more v w u n tables table h e here = record {
    numbers = e.sets.numbers ∙ h.numbers;
    passes = e.sets.passes ∙ h.passes;
    count = length_push tables table ∙ ap (λ c. c + 1) h.count;
    held = λ k beyond. ap (λ (p : Part D). p.held) (e.sets.elsewhere k (λ is. absurd (omega (arith, is)))) ∙ h.held k (omega arith);
    gains = gains_more v w u n true h.numbers h.gains e;
    left = λ k d less. dite (ℕ_discrete k n)
        (λ is. subst (λ i. Replays (does i) empty (seen_of u i) (get_or (tables ++ table ∷ []) i d)) (sym is) (subst (Replays (does n) empty (seen_of u n)) (sym (get_or_push tables table d n h.count)) here))
        (λ other. let before : k < n = omega arith in subst (λ (z : List (Event D) × T). Replays (does k) empty z.0 z.1)
        (λ i. (ap (λ (p : Part D). p.seen) (sym (e.sets.elsewhere k other)) i, sym (get_or_append_left tables (table ∷ []) d k (let c = h.count in omega arith)) i)) (h.left k d before));
  }

  module _ (v w : View D) (n : ℕ) (tables : List T) (h : HasTaken does empty v n tables w) where
    -- the final tables of the taken stripes, from the events after what was seen of them before
    pub left_behind : (k : ℕ) (d : T) → k < n → Replays (does k) empty (seen_of v k ++ (h.gains k).between) (get_or tables k d)
    left_behind k d less = let g = h.gains k in subst (λ es. Replays (does k) empty es (get_or tables k d)) (g.seen ∙ append-nil (seen_of v k ++ g.between)) (h.left k d less)

    -- a pass that carries the number of every pass had seen everything
    pub none_between : IsSound does empty w → ((q : ℕ) → q < v.passes → Carries v q) → (k : ℕ) → (h.gains k).between ≡ []
    none_between sound all k = let g = h.gains k in let seen = g.seen ∙ append-nil (seen_of v k ++ g.between) in
        let below : AreBelow v.passes (seen_of v k ++ g.between) = subst (λ (z : ℕ × List (Event D)). AreBelow z.0 z.1) (λ i. (h.passes i, seen i)) (sound.below k) in
        nothing_between v.passes v.numbers g.between all (All-back (IsBelow v.passes) (seen_of v k) g.between below) g.others
