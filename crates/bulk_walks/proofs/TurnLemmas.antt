-- A worker's loop over its stripes.
use Rattle.std.proofs.Common.{◌≡◌, ◌≢◌, ℕ, ◌+◌, ◌%◌, ◌≤◌, List, [], ◌∷◌, ◌++◌, inl, inr, refl, sym, ap, ◌∙◌, subst, arith}
use Rattle.std.proofs.lemmas.List.{append-nil}
use Rattle.std.proofs.lemmas.List.Elements.{All-nil}
use Rattle.std.proofs.lemmas.Bool.{cases_eq, cases_lt}
use Rattle.stripe_rule.specs.declared.view.Event.{Event}
use Rattle.stripe_rule.specs.declared.view.View.{View}
use Rattle.stripe_rule.specs.History.{has, AreOthers}
use Rattle.stripe_rule.specs.Gains.{Gains, Keeps, Adds, seen_of}
use Rattle.bins.specs.Table.{Entry}
use Rattle.bin_stripes.specs.declared.ghost_action.GhostAction.{GhostAction}
use Rattle.bin_stripes.specs.Actions.{Action, scanned}
use Rattle.bin_stripes.specs.Histories.{own_events}
use Rattle.bulk_walks.specs.Walks.{Events, IsTurn, Walked, Each, IsScan}
use Rattle.bulk_walks.proofs.Sums.{with_at, with_at-same, with_at-other}

keeps_all : (v : View GhostAction) (k : ℕ) → Keeps v v k
keeps_all v k = record { seen = refl; mine = refl }

keeps_on : (v u w : View GhostAction) (k : ℕ) → Keeps v u k → Keeps u w k → Keeps v w k
keeps_on v u w k p q = record { seen = q.seen ∙ p.seen; mine = q.mine ∙ p.mine }

abbrev gains_keeps : (v u w : View GhostAction) (k : ℕ) (more : Events) → Gains v u k more → Keeps u w k → Gains v w k more
gains_keeps v u w k more p q = record { between = p.between; others = p.others; seen = q.seen ∙ p.seen; mine = q.mine ∙ p.mine }

abbrev keeps_gains : (v u w : View GhostAction) (k : ℕ) (more : Events) → u.numbers ≡ v.numbers → Keeps v u k → Gains u w k more → Gains v w k more
keeps_gains v u w k more numbers p q = record {
  between = q.between;
  others = subst (λ ns. AreOthers ns q.between) numbers q.others;
  seen = q.seen ∙ ap (λ (es : Events). (es ++ q.between) ++ more) p.seen;
  mine = q.mine ∙ ap (λ (es : Events). es ++ more) p.mine;
}

-- a stripe that is kept gained no event
abbrev gains_none : (v w : View GhostAction) (k : ℕ) → Keeps v w k → Gains v w k []
gains_none v w k p = record {
  between = [];
  others = All-nil (λ (e : Event GhostAction). has e.by v.numbers ≡ _);
  seen = p.seen ∙ sym (append-nil _ ∙ append-nil _);
  mine = p.mine ∙ sym (append-nil _);
}

module _ (workers worker : ℕ) (Made : ℕ → View GhostAction → Events → Events → Type 0) (v : View GhostAction) where
  pub walked_none : Walked 0 workers worker Made v v
  walked_none = record { numbers = refl; passes = refl; turns = λ k t. absurd (omega arith); others = λ k _. keeps_all v k }

  -- the next stripe is in its turn
  pub walked_more : (n : ℕ) (u w : View GhostAction) (more : Events) → Walked n workers worker Made v u → n % workers ≡ worker → w.passes ≡ u.passes → (a : Adds u n more w)
      → Made n v (seen_of u n ++ a.here.between) more → Walked (n + 1) workers worker Made v w
  walked_more n u w more p turn same a made = record {
    numbers = a.numbers ∙ p.numbers;
    passes = same ∙ p.passes;
    turns = λ k t. elim (cases_eq k n) [
      | inl e ↦
          let kept = p.others n (λ x. omega arith) in
          subst (λ m. (es : Events) × ((gains : Gains v w m es) × Made m v (seen_of v m ++ gains.between) es)) (sym e)
          (more, (keeps_gains v u w n more p.numbers kept a.here, subst (λ (seen : Events). Made n v (seen ++ a.here.between) more) kept.seen made))
      | inr ne ↦ let had = p.turns k (omega arith, t.1) in (had.0, (gains_keeps v u w k had.0 had.1.0 (a.elsewhere k ne), had.1.1))
    ];
    others = λ k no.
        keeps_on v u w k (p.others k (λ t. no (omega arith, t.1))) (a.elsewhere k (λ e. no (omega arith, ap (λ m. m % workers) e ∙ turn)));
  }

  -- it is not
  pub walked_past : (n : ℕ) (u : View GhostAction) → Walked n workers worker Made v u → n % workers ≢ worker → Walked (n + 1) workers worker Made v u
  walked_past n u p no_turn = record {
    numbers = p.numbers;
    passes = p.passes;
    turns = λ k t. elim (cases_eq k n) [
      | inl e ↦ absurd (no_turn (ap (λ m. m % workers) (sym e) ∙ t.1))
      | inr ne ↦ p.turns k (omega arith, t.1)
    ];
    others = λ k no. p.others k (λ t. no (omega arith, t.1));
  }

  -- it stops, and the remaining stripes have none of its events
  pub walked_stop : (n most : ℕ) (u : View GhostAction) → n ≤ most → Walked n workers worker Made v u → ((k : ℕ) (found : Events) → Made k v found []) → Walked most workers worker Made v u
  walked_stop n most u le p made = record {
    numbers = p.numbers;
    passes = p.passes;
    turns = λ k t. elim (cases_lt k n) [
      | inl lt ↦ p.turns k (lt, t.1)
      | inr ge ↦ ([], (gains_none v u k (p.others k (λ x. omega arith)), made k (seen_of v k ++ [])))
    ];
    others = λ k no. p.others k (λ t. no (omega arith, t.1));
  }

-- such events are also such
pub walked_as : (workers worker : ℕ) (Made Also : ℕ → View GhostAction → Events → Events → Type 0) (v : View GhostAction) (n : ℕ) (w : View GhostAction) → Walked n workers worker Made v w
    → ((k : ℕ) (found more : Events) → IsTurn n workers worker k → Made k v found more → Also k v found more) → Walked n workers worker Also v w
walked_as workers worker Made Also v n w p also = record {
  numbers = p.numbers;
  passes = p.passes;
  turns = λ k t. let had = p.turns k t in (had.0, (had.1.0, also k (seen_of v k ++ had.1.0.between) had.0 t had.1.1));
  others = p.others;
}

-- events have the least of the numbers
pub own_again : (u v : View GhostAction) (actions : List Action) → u.numbers ≡ v.numbers → own_events u actions ≡ own_events v actions
own_again u v actions same = ap (λ (ns : List ℕ). own_events (record v { numbers = ns }) actions) same

-- the same events, if the function gets one more value
pub walked_with : {X : Type 0} (Of : ℕ → X → View GhostAction → Events → Events → Type 0) (workers worker : ℕ) (xs : ℕ → X) (v : View GhostAction) (n : ℕ) (u : View GhostAction) (x : X)
    → Walked n workers worker (Each Of xs) v u → Walked n workers worker (Each Of (with_at xs n x)) v u
walked_with Of workers worker xs v n u x p =
    walked_as workers worker (Each Of xs) (Each Of (with_at xs n x)) v n u p (λ k found more t made. subst (λ y. Of k y v found more) (sym (with_at-other xs n x k (λ e. omega arith))) made)

-- one more scan
pub scanned_more : (workers worker : ℕ) (scans : ℕ → List Entry) (v : View GhostAction) (n : ℕ) (u w : View GhostAction) (entries : List Entry) → Walked n workers worker (Each IsScan scans) v u → n % workers ≡ worker → w.passes ≡ u.passes
    → Adds u n (own_events u (scanned entries ∷ [])) w → Walked (n + 1) workers worker (Each IsScan (with_at scans n entries)) v w
scanned_more workers worker scans v n u w entries p turn same a =
    walked_more workers worker (Each IsScan (with_at scans n entries)) v n u w (own_events u (scanned entries ∷ [])) (walked_with IsScan workers worker scans v n u entries p) turn same a
    (own_again u v (scanned entries ∷ []) p.numbers ∙ ap (λ (es : List Entry). own_events v (scanned es ∷ [])) (sym (with_at-same scans n entries)))
