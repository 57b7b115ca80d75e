-- A new table keeps the rule, and still does after its first numbers are dealt to another view.
use Rattle.std.proofs.Common.{◌≡◌, ◌≢◌, ◌⊎◌, ℕ, zero, suc, ◌+◌, ◌<◌, ◌≤◌, Bool, true, false, true≢false, eqb, ◌||◌, List, [], ◌∷◌, ◌++◌, replicate, length, get_or, set, Option, Some, refl, sym, ap, ◌∙◌, subst, inl, inr, ⊎_elim, arith, eq-eqb, All}
use Rattle.std.proofs.lemmas.List.Elements.{All-nil, All-head, All-tail}
use Rattle.std.proofs.lemmas.List.{length-replicate, get_or-replicate}
use mathlib.Core.Logic.{dite}
use mathlib.Core.Option as maybe
use native.Mathlib.Decide.{dec_le}
use lib.ListN.{get_elem?}
use Rattle.atomic_table.specs.Table.{State, opening, Splits}
use Rattle.atomic_table.proofs.Lists.{at_set, set_else, at_longer, at_map}
use Rattle.stripe_rule.specs.declared.view.Event.{Event}
use Rattle.stripe_rule.specs.declared.view.Part.{Part}
use Rattle.stripe_rule.specs.declared.view.View.{View}
use Rattle.stripe_rule.specs.History.{has, made_by, AreUnder, AreOthers}
use Rattle.stripe_rule.specs.Gains.{blank, part_of, held_at, Carries}
use Rattle.stripe_rule.specs.Words.{words_of, word_at}
use Rattle.stripe_rule.specs.Rule.{from_on, Home, newcomer, opener, At, AreApart, IsCounted, FitsLog, IsFree, IsHeld, Kept}
use Rattle.stripe_rule.specs.Steps.{with_numbers, head_of, tail_of}
use Rattle.stripe_rule.proofs.HistoryLemmas.{IsUnder, IsOther, IsBelow, bool_cases, eq_of, others_fewer}
use Rattle.stripe_rule.proofs.ViewLemmas.{at_end, get_or-beyond, same_view}

only_head : (q i : ℕ) → has q (i ∷ []) ≡ true → q ≡ i
only_head q i c = ⊎_elim (eq_of q i) (λ t. absurd (true≢false (sym c ∙ ap (λ b. b || false) t))) (bool_cases (eqb q i))

above : (i count q : ℕ) → has q (from_on i count) ≡ true → i ≤ q
above i zero q c = absurd (true≢false (sym c))
above i (suc count) q c = ⊎_elim
    (λ (t : eqb q i ≡ true). let is = eq_of q i t in omega arith)
    (λ (t : eqb q i ≡ false). let l = above (i + 1) count q (sym (ap (λ b. b || has q (from_on (i + 1) count)) t) ∙ c) in omega arith)
    (bool_cases (eqb q i))

below : (n count q : ℕ) → has q (from_on n count) ≡ true → q < n + count
below n zero q c = absurd (true≢false (sym c))
below n (suc count) q c = ⊎_elim
    (λ (t : eqb q n ≡ true). let is = eq_of q n t in omega arith)
    (λ (t : eqb q n ≡ false). let l = below (n + 1) count q (sym (ap (λ b. b || has q (from_on (n + 1) count)) t) ∙ c) in omega arith)
    (bool_cases (eqb q n))

or_true : (b : Bool) → (b || true) ≡ true
or_true true = refl
or_true false = refl

module _ (D : Type 0) where
  -- a newcomer knows nothing of any stripe
  pub part_new : (stripes passes : ℕ) (ns : List ℕ) (k : ℕ) → part_of {D = D} (newcomer stripes passes ns) k ≡ blank
  part_new stripes passes ns k = dite (dec_le (suc k) stripes)
      (λ inside. get_or-replicate stripes k blank blank inside)
      (λ beyond. let none : Part D = blank in get_or-beyond (replicate stripes none) k none (let l = length-replicate stripes none in omega arith))

  -- a newcomer fits a list of others' events
  pub new_fits : (stripes passes k : ℕ) (ns : List ℕ) (log : List (Event D)) → AreOthers ns log → FitsLog k log (newcomer stripes passes ns)
  new_fits stripes passes k ns log others = let is : part_of {D = D} (newcomer stripes passes ns) k ≡ blank = part_new stripes passes ns k in record {
    rest = log;
    begins = ap (λ (p : Part D). p.seen ++ log) (sym is);
    others = others;
    own = λ q c. ap (λ (p : Part D). made_by q p.seen) is ∙ ap (λ (p : Part D). made_by q p.mine) (sym is);
    under = subst (λ (p : Part D). AreUnder ns p.mine) (sym is) (All-nil (IsUnder ns));
    heard = (log, ap (λ (p : Part D). p.told ++ log) (sym is));
  }

  new_idle : (stripes passes k : ℕ) (ns : List ℕ) → held_at {D = D} (newcomer stripes passes ns) k ≡ false
  new_idle stripes passes k ns = ap (λ (p : Part D). p.held) (part_new stripes passes ns k)

  new_counted : (stripes passes : ℕ) (ns : List ℕ) → ((q : ℕ) → has q ns ≡ true → q < passes) → IsCounted {D = D} stripes passes (newcomer stripes passes ns)
  new_counted stripes passes ns small = record { wide = λ q c. (let none : Part D = blank in length-replicate stripes none); count = λ q c. refl; small = small }

at_all : {X : Type 0} (P : X → Type 0) (xs : List X) (i : ℕ) → i < length xs → All P xs → (x : X) × ((get_elem? xs i ≡ maybe.some x) × P x)
at_all P [] i h all = absurd (omega arith)
at_all P (x ∷ xs) zero h all = (x, (refl, All-head P x xs all))
at_all P (x ∷ xs) (suc i) h all = at_all P xs i (omega arith) (All-tail P x xs all)

module _ {D T B : Type 0} (does : ℕ → T → D → T → Type 0) (empty : T) (content : B → T) (beside : ℕ → List (Event D) → B → Type 0) (stripes passes : ℕ) where
  abbrev Rule : State (Option B) (View D) → Type 0
  Rule = Kept does empty content beside stripes passes

  one : (a : View D) (j : ℕ) (u : View D) → At (a ∷ []) j u → (j ≡ 0) × (a ≡ u)
  one a zero u e = (refl, maybe.some-injective a u e)
  one a (suc j) u e = absurd (maybe.some-ne-none u (sym e))

  every_one : (F : View D → Type 0) (a : View D) → F a → (j : ℕ) (u : View D) → At (a ∷ []) j u → F u
  every_one F a f j u e = subst F (one a j u e).1 f

  -- bins with nothing in them, which no event has touched
  abbrev pub HasEmptyBins : Option B → Type 0
  HasEmptyBins x = (b : B) × ((x ≡ Some b) × ((content b ≡ empty) × ((k : ℕ) → beside k [] b)))

  pub opens : (words : List ℕ) (homes : List (Option B)) → length words ≡ words_of stripes → length homes ≡ stripes → ((i : ℕ) → i < words_of stripes → get_or words i 0 ≡ 0) → All HasEmptyBins homes
      → Rule (opening words homes (opener stripes passes))
  opens words homes long wide zeros bins = let first : View D = opener stripes passes in record {
    words = long;
    between = λ k i inside low high. zeros (word_at k + i) (omega arith);
    apart = λ i j x y q ex ey cx cy. (one first i x ex).0 ∙ sym (one first j y ey).0;
    counted = every_one (IsCounted stripes passes) first (new_counted D stripes passes (from_on 0 passes) (λ q c. let l = below 0 passes q c in omega arith));
    stripe = λ k inside. let b = at_all HasEmptyBins homes k (omega arith) bins in (
      maybe.some b.0,
      (
        at_map maybe.some homes k b.0 b.1.0,
        record {
          log = [];
          legal = (empty, refl);
          below = All-nil (IsBelow passes);
          fits = every_one (FitsLog k []) first (new_fits D stripes passes k (from_on 0 passes) [] (All-nil (IsOther (from_on 0 passes))));
          holding = inl record {
            word_is = zeros (word_at k) (omega arith);
            bins = b.1.1.0;
            home_is = ap maybe.some b.1.1.1.0;
            content_is = b.1.1.1.1.0;
            beside_is = b.1.1.1.1.1 k;
            nobody = every_one (λ u. held_at u k ≡ false) first (new_idle D stripes passes k (from_on 0 passes));
          };
        },
      ),
    );
  }

  -- a view that holds nothing becomes two that hold nothing and carry no other numbers
  module _ (s : State (Option B) (View D)) (id : ℕ) (v l w : View D) (at : At s.views id v) where
    abbrev both : List (View D)
    both = set s.views id l ++ w ∷ []

    kind : (j : ℕ) (u : View D) → At both j u → ((j ≡ id) × (l ≡ u)) ⊎ (((j ≢ id) × At s.views j u) ⊎ ((j ≡ length (set s.views id l)) × (w ≡ u)))
    kind j u e = ⊎_elim
        (λ t. ⊎_elim (λ (x : (j ≡ id) × (l ≡ u)). inl x) (λ (x : (j ≢ id) × At s.views j u). inr (inl x)) (at_set s.views id j l u t))
        (λ t. inr (inr t))
        (at_end (set s.views id l) w u j e)

    every_both : (F : View D → Type 0) → F l → F w → ((j : ℕ) (u : View D) → At s.views j u → F u) → (j : ℕ) (u : View D) → At both j u → F u
    every_both F a b c j u e = ⊎_elim (λ t. subst F t.1 a) (λ t. ⊎_elim (λ x. c j u x.1) (λ x. subst F x.1 b) t) (kind j u e)

    -- who carried the number before
    from : ((q : ℕ) → Carries l q → Carries v q) → ((q : ℕ) → Carries w q → Carries v q) → (j : ℕ) (u : View D) (q : ℕ) → At both j u → Carries u q
        → ((j ≢ id) × At s.views j u) ⊎ (Carries v q × (((j ≡ id) × Carries l q) ⊎ ((j ≡ length (set s.views id l)) × Carries w q)))
    from sub_l sub_w j u q e c = ⊎_elim
        (λ t. let m : Carries l q = subst (λ (z : View D). Carries z q) (sym t.1) c in inr (sub_l q m, inl (t.0, m)))
        (λ t. ⊎_elim (λ x. inl x) (λ x. let m : Carries w q = subst (λ (z : View D). Carries z q) (sym x.1) c in inr (sub_w q m, inr (x.0, m))) t)
        (kind j u e)

    fork_apart : ((q : ℕ) → Carries l q → Carries v q) → ((q : ℕ) → Carries w q → Carries v q) → ((q : ℕ) → Carries l q → Carries w q → ⊥) → AreApart s.views → AreApart both
    fork_apart sub_l sub_w two apart i j x y q ex ey cx cy = ⊎_elim
        (λ a. ⊎_elim (λ b. apart i j x y q a.1 b.1 cx cy) (λ b. absurd (a.0 (apart i id x v q a.1 at cx b.0))) (from sub_l sub_w j y q ey cy))
        (λ a. ⊎_elim
        (λ b. absurd (b.0 (apart j id y v q b.1 at cy a.0)))
        (λ b. ⊎_elim
        (λ m. ⊎_elim (λ n. m.0 ∙ sym n.0) (λ n. absurd (two q m.1 n.1)) b.1)
        (λ m. ⊎_elim (λ n. absurd (two q n.1 m.1)) (λ n. m.0 ∙ sym n.0) b.1)
        a.1)
        (from sub_l sub_w j y q ey cy))
        (from sub_l sub_w i x q ex cx)

    fork_holding : (k : ℕ) (log : List (Event D)) (word : ℕ) (home : Home B) → held_at v k ≡ false → held_at l k ≡ false → held_at w k ≡ false
        → IsFree does empty content beside k log word home s.views ⊎ IsHeld does empty content beside k log word home s.views → IsFree does empty content beside k log word home both ⊎ IsHeld does empty content beside k log word home both
    fork_holding k log word home idle idle_l idle_w (inl f) = inl record {
      word_is = f.word_is;
      bins = f.bins;
      home_is = f.home_is;
      content_is = f.content_is;
      beside_is = f.beside_is;
      nobody = every_both (λ u. held_at u k ≡ false) idle_l idle_w f.nobody;
    }
    fork_holding k log word home idle idle_l idle_w (inr b) = let other : b.who ≢ id = λ e. true≢false (sym b.held ∙ (ap (λ (z : View D). held_at z k) (same_view s.views id b.view v (subst (λ i. At s.views i b.view) e b.at) at) ∙ idle)) in inr record {
      word_is = b.word_is;
      home_is = b.home_is;
      who = b.who;
      view = b.view;
      at = at_longer (set s.views id l) (w ∷ []) b.who b.view (set_else s.views id b.who l other ∙ b.at);
      held = b.held;
      whole = b.whole;
      alone = λ j u e h. ⊎_elim
          (λ x. absurd (true≢false (sym h ∙ (ap (λ (z : View D). held_at z k) (sym x.1) ∙ idle_l))))
          (λ t. ⊎_elim (λ x. b.alone j u x.1 h) (λ x. absurd (true≢false (sym h ∙ (ap (λ (z : View D). held_at z k) (sym x.1) ∙ idle_w)))) t)
          (kind j u e);
    }

  -- the first number is dealt
  deals : (id i count : ℕ) → let v : View D = newcomer stripes passes (from_on i (suc count)) in Splits Rule id v (with_numbers v (head_of v.numbers)) (with_numbers v (tail_of v.numbers))
  deals id i count s r at = let v : View D = newcomer stripes passes (from_on i (suc count)) in let l : View D = newcomer stripes passes (i ∷ []) in let w : View D = newcomer stripes passes (from_on (i + 1) count) in
      let sub_l : (q : ℕ) → has q (i ∷ []) ≡ true → has q (from_on i (suc count)) ≡ true = λ q c. ap (λ b. b || has q (from_on (i + 1) count)) (eq-eqb q i (only_head q i c)) in
      let sub_w : (q : ℕ) → has q (from_on (i + 1) count) ≡ true → has q (from_on i (suc count)) ≡ true = λ q c. ap (λ b. eqb q i || b) c ∙ or_true (eqb q i) in
      let small = (r.counted id v at).small in record {
        words = r.words;
        between = r.between;
        apart = fork_apart s id v l w at sub_l sub_w (λ q c d. let is = only_head q i c in let a = above (i + 1) count q d in absurd (omega arith)) r.apart;
        counted = every_both s id v l w at (IsCounted stripes passes) (new_counted D stripes passes (i ∷ []) (λ q c. small q (sub_l q c))) (new_counted D stripes passes (from_on (i + 1) count) (λ q c. small q (sub_w q c))) r.counted;
        stripe = λ k inside. let old = r.stripe k inside in let t = old.1.1 in let f = t.fits id v at in
            let others : AreOthers v.numbers t.log = subst (AreOthers v.numbers) (sym (f.begins ∙ ap (λ (p : Part D). p.seen ++ f.rest) (part_new D stripes passes v.numbers k))) f.others in (
              old.0,
              (
                old.1.0,
                record {
                  log = t.log;
                  legal = t.legal;
                  below = t.below;
                  fits = every_both s id v l w at (FitsLog k t.log) (new_fits D stripes passes k (i ∷ []) t.log (others_fewer v.numbers (i ∷ []) t.log sub_l others))
                      (new_fits D stripes passes k (from_on (i + 1) count) t.log (others_fewer v.numbers (from_on (i + 1) count) t.log sub_w others)) t.fits;
                  holding = fork_holding s id v l w at k t.log (get_or s.words (word_at k) 0) old.0 (new_idle D stripes passes k v.numbers) (new_idle D stripes passes k l.numbers) (new_idle D stripes passes k w.numbers) t.holding;
                },
              ),
            );
      }

  pub deals_as : (id i count : ℕ) (v : View D) → v ≡ newcomer stripes passes (from_on i (suc count)) → Splits Rule id v (with_numbers v (head_of v.numbers)) (with_numbers v (tail_of v.numbers))
  deals_as id i count v is = subst (λ (x : View D). Splits Rule id x (with_numbers x (head_of x.numbers)) (with_numbers x (tail_of x.numbers))) (sym is) (deals id i count)
