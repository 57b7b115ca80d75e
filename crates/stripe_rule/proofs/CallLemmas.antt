-- Steps one after another: how a call, and a wait, extend the knowledge.
use Rattle.std.proofs.Common.{◌≡◌, ◌⊎◌, ℕ, Bool, true, false, true≢false, eqb, ◌||◌, min, List, [], ◌∷◌, ◌++◌, map, refl, sym, ap, ◌∙◌, subst, ⊎_elim, arith, append-nil, append_assoc, eq-eqb}
use Rattle.std.proofs.lemmas.List.Elements.{All-nil, All-cons, All-append}
use mathlib.Core.Logic.{dite}
use native.Mathlib.Decide.{ℕ_discrete}
use Rattle.stripe_rule.specs.declared.view.Event.{Event}
use Rattle.stripe_rule.specs.declared.view.Part.{Part}
use Rattle.stripe_rule.specs.declared.view.View.{View}
use Rattle.stripe_rule.specs.History.{has, AreUnder, AreOthers}
use Rattle.stripe_rule.specs.Gains.{least, least_of, part_of, seen_of, mine_of, held_at, IsIdle, Carries, own_event, Gains, Keeps, Adds}
use Rattle.stripe_rule.specs.Steps.{SetsPart, Extends, lengthened, grown}
use Rattle.stripe_rule.proofs.HistoryLemmas.{IsUnder, IsOther, bool_cases}

-- a list that is not empty has a least number
pub least_has : (q : ℕ) (ns : List ℕ) → has q ns ≡ true → has (least ns) ns ≡ true
least_has q [] c = absurd (true≢false (sym c))
least_has q (n ∷ ns) c = in_it n ns
  where
    in_it : (m : ℕ) (xs : List ℕ) → has (least_of m xs) (m ∷ xs) ≡ true
    in_it m [] = ap (λ b. b || false) (eq-eqb m m refl)
    in_it m (x ∷ xs) = let r = in_it (min m x) xs in let l = least_of (min m x) xs in ⊎_elim
        (λ (t : eqb l (min m x) ≡ true). let is : l ≡ min m x = grind (arith) in ⊎_elim
        (λ (a : min m x ≡ m). ap (λ b. b || (eqb l x || has l xs)) (eq-eqb l m (is ∙ a)))
        (λ (a : min m x ≡ x). ap (λ b. eqb l m || (b || has l xs)) (eq-eqb l x (is ∙ a)) ∙ or_true (eqb l m))
        (min_cases m x))
        (λ (t : eqb l (min m x) ≡ false). let h : has l xs ≡ true = sym (ap (λ b. b || has l xs) t) ∙ r in ap (λ b. eqb l m || (eqb l x || b)) h ∙ (ap (λ b. eqb l m || b) (or_true (eqb l x)) ∙ or_true (eqb l m)))
        (bool_cases (eqb l (min m x)))
      where
        or_true : (b : Bool) → (b || true) ≡ true
        or_true true = refl
        or_true false = refl

        min_cases : (a b : ℕ) → (min a b ≡ a) ⊎ (min a b ≡ b)
        min_cases a b = grind (arith)

module _ {D : Type 0} where
  -- a pass's own events have a number that it carries
  pub own_under : (v : View D) (actions : List D) → Carries v (least v.numbers) → AreUnder v.numbers (map (own_event v) actions)
  own_under v [] c = All-nil (IsUnder v.numbers)
  own_under v (d ∷ ds) c = All-cons (IsUnder v.numbers) (own_event v d) (map (own_event v) ds) c (own_under v ds c)

  -- if it still carries its numbers, it makes events with the same number
  pub own_same : (v w : View D) (actions : List D) → w.numbers ≡ v.numbers → map (own_event w) actions ≡ map (own_event v) actions
  own_same v w [] e = refl
  own_same v w (d ∷ ds) e = λ i. event (e i) d ∷ own_same v w ds e i
    where
      event : List ℕ → D → Event D
      event ns action = record { by = least ns; action = action }

  pub carries_same : (v w : View D) (q : ℕ) → w.numbers ≡ v.numbers → Carries v q → Carries w q
  carries_same v w q e c = ap (has q) e ∙ c

  -- nothing came yet
  pub extends_self : (v : View D) (k : ℕ) → Extends v k (held_at v k) v
  extends_self v k = record {
    between = [];
    others = All-nil (IsOther v.numbers);
    sets = record { numbers = refl; passes = refl; wide = refl; here = ap (λ (l : List (Event D)). part l) (sym (append-nil (seen_of v k))); elsewhere = λ j other. refl };
  }
    where
      part : List (Event D) → Part D
      part l = record { seen = l; mine = (part_of v k).mine; told = (part_of v k).told; held = (part_of v k).held }

  -- a look after a look
  pub extends_again : (v w u : View D) (k : ℕ) (h h' : Bool) → Extends v k h w → Extends w k h' u → Extends v k h' u
  extends_again v w u k h h' a b = record {
    between = a.between ++ b.between;
    others = All-append (IsOther v.numbers) a.between b.between a.others (subst (λ ns. AreOthers ns b.between) a.sets.numbers b.others);
    sets = record {
      numbers = b.sets.numbers ∙ a.sets.numbers;
      passes = b.sets.passes ∙ a.sets.passes;
      wide = b.sets.wide ∙ a.sets.wide;
      here = b.sets.here ∙ (ap (λ (p : Part D). lengthened p b.between h') a.sets.here ∙ ap (λ (l : List (Event D)). part l) (append_assoc (seen_of v k) a.between b.between));
      elsewhere = λ j other. b.sets.elsewhere j other ∙ a.sets.elsewhere j other;
    };
  }
    where
      part : List (Event D) → Part D
      part l = record { seen = l; mine = (part_of v k).mine; told = (part_of v k).told; held = h' }

  elsewhere_keeps : (v w : View D) (j : ℕ) → part_of w j ≡ part_of v j → Keeps v w j
  elsewhere_keeps v w j e = record { seen = ap (λ (p : Part D). p.seen) e; mine = ap (λ (p : Part D). p.mine) e }

  -- what a look adds
  pub adds_none : (v w : View D) (k : ℕ) (h : Bool) → Extends v k h w → Adds v k [] w
  adds_none v w k h e = record {
    numbers = e.sets.numbers;
    here = record {
      between = e.between;
      others = e.others;
      seen = ap (λ (p : Part D). p.seen) e.sets.here ∙ sym (append-nil (seen_of v k ++ e.between));
      mine = ap (λ (p : Part D). p.mine) e.sets.here ∙ sym (append-nil (mine_of v k));
    };
    elsewhere = λ j other. elsewhere_keeps v w j (e.sets.elsewhere j other);
  }

  -- what a take and the release after it add
  pub adds_after : (v w u : View D) (k : ℕ) (h : Bool) (more : List (Event D)) → Extends v k h w → SetsPart w k (grown (part_of w k) more) u → Adds v k more u
  adds_after v w u k h more e s = record {
    numbers = s.numbers ∙ e.sets.numbers;
    here = record {
      between = e.between;
      others = e.others;
      seen = ap (λ (p : Part D). p.seen) s.here ∙ ap (λ (p : Part D). p.seen ++ more) e.sets.here;
      mine = ap (λ (p : Part D). p.mine) s.here ∙ ap (λ (p : Part D). p.mine ++ more) e.sets.here;
    };
    elsewhere = λ j other. elsewhere_keeps v u j (s.elsewhere j other ∙ e.sets.elsewhere j other);
  }

  -- a pass that holds no stripe holds none after a look
  pub idle_after : (v w : View D) (k : ℕ) → IsIdle v → Extends v k false w → IsIdle w
  idle_after v w k idle e j = dite (ℕ_discrete j k)
      (λ is. subst (λ i. held_at w i ≡ false) (sym is) (ap (λ (p : Part D). p.held) e.sets.here))
      (λ other. ap (λ (p : Part D). p.held) (e.sets.elsewhere j other) ∙ idle j)

  -- and none after a take and its release
  pub idle_released : (v w u : View D) (k : ℕ) (h : Bool) (more : List (Event D)) → IsIdle v → Extends v k h w → SetsPart w k (grown (part_of w k) more) u → IsIdle u
  idle_released v w u k h more idle e s j = dite (ℕ_discrete j k)
      (λ is. subst (λ i. held_at u i ≡ false) (sym is) (ap (λ (p : Part D). p.held) s.here))
      (λ other. ap (λ (p : Part D). p.held) (s.elsewhere j other ∙ e.sets.elsewhere j other) ∙ idle j)

  -- nothing was gained at a stripe
  pub gains_none : (v w : View D) (k : ℕ) → seen_of w k ≡ seen_of v k → mine_of w k ≡ mine_of v k → Gains v w k []
  gains_none v w k seen mine = record {
    between = [];
    others = All-nil (IsOther v.numbers);
    seen = seen ∙ (sym (append-nil (seen_of v k)) ∙ sym (append-nil (seen_of v k ++ [])));
    mine = mine ∙ sym (append-nil (mine_of v k));
  }

  -- a look after others: what was gained at each stripe
  pub gains_more : (v w u : View D) (n : ℕ) (held : Bool) → w.numbers ≡ v.numbers → ((k : ℕ) → Gains v w k []) → Extends w n held u → (k : ℕ) → Gains v u k []
  gains_more v w u n held numbers gains e k = dite (ℕ_discrete k n) (λ is. subst (λ i. Gains v u i []) (sym is) here) (λ other. elsewhere (e.sets.elsewhere k other))
    where
      here : Gains v u n []
      here = let g = gains n in record {
        between = g.between ++ e.between;
        others = All-append (IsOther v.numbers) g.between e.between g.others (subst (λ ns. AreOthers ns e.between) numbers e.others);
        seen = ap (λ (p : Part D). p.seen) e.sets.here ∙ (ap (λ l. l ++ e.between) (g.seen ∙ append-nil (seen_of v n ++ g.between)) ∙ (append_assoc (seen_of v n) g.between e.between ∙ sym (append-nil (seen_of v n ++ (g.between ++ e.between)))));
        mine = ap (λ (p : Part D). p.mine) e.sets.here ∙ g.mine;
      }

      elsewhere : part_of u k ≡ part_of w k → Gains v u k []
      elsewhere same = let g = gains k in record { between = g.between; others = g.others; seen = ap (λ (p : Part D). p.seen) same ∙ g.seen; mine = ap (λ (p : Part D). p.mine) same ∙ g.mine }
