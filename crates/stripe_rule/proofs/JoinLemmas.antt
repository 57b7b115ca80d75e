-- Two passes become one.
use Rattle.std.proofs.Common.{◌≡◌, ◌≢◌, ◌⊎◌, ℕ, zero, suc, ◌<◌, Bool, true, false, true≢false, List, [], ◌∷◌, ◌++◌, length, get_or, set, Option, refl, sym, ap, ◌∙◌, subst, inl, inr, ⊎_elim, arith, append-nil, append_assoc}
use Rattle.std.proofs.lemmas.List.Elements.{All-nil, All-append}
use mathlib.Core.Logic.{dite}
use native.Mathlib.Decide.{ℕ_discrete}
use Rattle.atomic_table.specs.Table.{State, Joins}
use Rattle.atomic_table.proofs.Lists.{at_set, set_else}
use Rattle.stripe_rule.specs.declared.view.Event.{Event}
use Rattle.stripe_rule.specs.declared.view.Part.{Part}
use Rattle.stripe_rule.specs.declared.view.View.{View}
use Rattle.stripe_rule.specs.History.{has, made_by, AreUnder, AreOthers, StartsWith}
use Rattle.stripe_rule.specs.Gains.{blank, part_of, seen_of, mine_of, held_at, IsIdle, Carries, Hears, IsJoined}
use Rattle.stripe_rule.specs.Words.{word_at}
use Rattle.stripe_rule.specs.Rule.{Home, At, AreApart, IsCounted, FitsLog, IsFree, IsHeld, Kept}
use Rattle.stripe_rule.specs.Steps.{Extends, longer, united_part, united_parts, united, spent}
use Rattle.stripe_rule.proofs.HistoryLemmas.{IsUnder, IsOther, not_true, has-append, has-left, has-right, All-front, All-back, made_by-append, made_by-others, under_none, under_more}
use Rattle.stripe_rule.proofs.ViewLemmas.{same_view}

module _ {D : Type 0} where
  abbrev hd : Event D → List (Event D) → Event D
  hd d [] = d
  hd d (x ∷ xs) = x

  abbrev tl : List (Event D) → List (Event D)
  tl [] = []
  tl (x ∷ xs) = xs

  -- the longer of two beginnings of one list begins with each, and begins the list
  record Meets (xs ys r s : List (Event D)) : Type 0 where
    pub left : List (Event D)
    pub right : List (Event D)
    pub rest : List (Event D)
    pub is_left : longer xs ys ≡ xs ++ left
    pub is_right : longer xs ys ≡ ys ++ right
    pub rest_left : r ≡ left ++ rest
    pub rest_right : s ≡ right ++ rest

  meets : (xs ys r s : List (Event D)) → xs ++ r ≡ ys ++ s → Meets xs ys r s
  meets [] ys r s e = record { left = ys; right = []; rest = s; is_left = refl; is_right = sym (append-nil ys); rest_left = e; rest_right = refl }
  meets (x ∷ xs) [] r s e = record { left = []; right = x ∷ xs; rest = r; is_left = sym (append-nil (x ∷ xs)); is_right = refl; rest_left = refl; rest_right = sym e }
  meets (x ∷ xs) (y ∷ ys) r s e = let m = meets xs ys r s (ap tl e) in record {
    left = m.left;
    right = m.right;
    rest = m.rest;
    is_left = ap (λ l. x ∷ l) m.is_left;
    is_right = λ i. ap (hd x) e i ∷ m.is_right i;
    rest_left = m.rest_left;
    rest_right = m.rest_right;
  }

  -- if one begins with the other, it is the longer
  pub longer_is : (xs ys : List (Event D)) → StartsWith xs ys → longer xs ys ≡ xs
  longer_is xs ys b = ap (λ l. longer l ys) b.1 ∙ (go ys b.0 ∙ sym b.1)
    where
      go : (ys r : List (Event D)) → longer (ys ++ r) ys ≡ ys ++ r
      go [] [] = refl
      go [] (x ∷ r) = refl
      go (y ∷ ys) r = ap (λ l. y ∷ l) (go ys r)

  length-united : (ps qs : List (Part D)) → length (united_parts ps qs) ≡ length ps
  length-united [] qs = refl
  length-united (p ∷ ps) [] = refl
  length-united (p ∷ ps) (q ∷ qs) = ap suc (length-united ps qs)

  get_or-united : (ps qs : List (Part D)) (k : ℕ) → length ps ≡ length qs → get_or (united_parts ps qs) k blank ≡ united_part (get_or ps k blank) (get_or qs k blank)
  get_or-united [] [] k e = refl
  get_or-united [] (q ∷ qs) k e = absurd (omega arith)
  get_or-united (p ∷ ps) [] k e = absurd (omega arith)
  get_or-united (p ∷ ps) (q ∷ qs) zero e = refl
  get_or-united (p ∷ ps) (q ∷ qs) (suc k) e = get_or-united ps qs k (omega arith)

  pub part_united : (v w : View D) (k : ℕ) → length v.parts ≡ length w.parts → part_of (united v w) k ≡ united_part (part_of v k) (part_of w k)
  part_united v w k e = get_or-united v.parts w.parts k e

  others_both : (ns ms : List ℕ) (es : List (Event D)) → AreOthers ns es → AreOthers ms es → AreOthers (ns ++ ms) es
  others_both ns ms es a b k d lt = let e : Event D = get_or es k d in not_true (has e.by (ns ++ ms)) (λ c. ⊎_elim (λ x. true≢false (sym x ∙ a k d lt)) (λ x. true≢false (sym x ∙ b k d lt)) (has-append e.by ns ms c))

  -- among the events that both have seen, those with a number of the one are the ones that it made
  own_both : (ns : List ℕ) (q : ℕ) (seen left all mine : List (Event D)) → has q ns ≡ true → AreOthers ns left → all ≡ seen ++ left → made_by q seen ≡ made_by q mine → made_by q all ≡ made_by q mine
  own_both ns q seen left all mine c others is own = ap (made_by q) is ∙ (made_by-others ns q seen left c others ∙ own)

  mine_left : (ns : List ℕ) (q : ℕ) (xs ys : List (Event D)) → has q ns ≡ false → AreUnder ns ys → made_by q (xs ++ ys) ≡ made_by q xs
  mine_left ns q xs ys out under = made_by-append q xs ys ∙ (ap (λ l. made_by q xs ++ l) (under_none ns q ys out under) ∙ append-nil (made_by q xs))

  mine_right : (ns : List ℕ) (q : ℕ) (xs ys : List (Event D)) → has q ns ≡ false → AreUnder ns xs → made_by q (xs ++ ys) ≡ made_by q ys
  mine_right ns q xs ys out under = made_by-append q xs ys ∙ ap (λ l. l ++ made_by q ys) (under_none ns q xs out under)

  -- the view that carries both fits
  both_fit : (k : ℕ) (log : List (Event D)) (v w : View D) → length v.parts ≡ length w.parts → ((q : ℕ) → Carries v q → Carries w q → ⊥) → FitsLog k log v → FitsLog k log w → FitsLog k log (united v w)
  both_fit k log v w wide apart f g = let p = part_of v k in let r = part_of w k in let ns = v.numbers ++ w.numbers in
      let m = meets p.seen r.seen f.rest g.rest (sym f.begins ∙ g.begins) in let is = part_united v w k wide in
      let left : AreOthers v.numbers (m.left ++ m.rest) = subst (AreOthers v.numbers) m.rest_left f.others in
      let right : AreOthers w.numbers (m.right ++ m.rest) = subst (AreOthers w.numbers) m.rest_right g.others in record {
        rest = m.rest;
        begins = f.begins ∙ (ap (λ l. p.seen ++ l) m.rest_left ∙ (sym (append_assoc p.seen m.left m.rest) ∙ (ap (λ l. l ++ m.rest) (sym m.is_left) ∙ ap (λ (x : Part D). x.seen ++ m.rest) (sym is))));
        others = others_both v.numbers w.numbers m.rest (All-back (IsOther v.numbers) m.left m.rest left) (All-back (IsOther w.numbers) m.right m.rest right);
        own = λ q c. ap (λ (x : Part D). made_by q x.seen) is ∙ (⊎_elim
            (λ d. own_both v.numbers q p.seen m.left (longer p.seen r.seen) p.mine d (All-front (IsOther v.numbers) m.left m.rest left) m.is_left (f.own q d)
            ∙ sym (mine_left w.numbers q p.mine r.mine (not_true (has q w.numbers) (apart q d)) g.under))
            (λ d. own_both w.numbers q r.seen m.right (longer p.seen r.seen) r.mine d (All-front (IsOther w.numbers) m.right m.rest right) m.is_right (g.own q d)
            ∙ sym (mine_right v.numbers q p.mine r.mine (not_true (has q v.numbers) (λ a. apart q a d)) f.under))
            (has-append q v.numbers w.numbers c) ∙ ap (λ (x : Part D). made_by q x.mine) (sym is));
        under = subst (λ (x : Part D). AreUnder ns x.mine) (sym is) (All-append (IsUnder ns) p.mine r.mine (under_more v.numbers ns p.mine (λ q. has-left q v.numbers w.numbers) f.under) (under_more w.numbers ns r.mine (λ q. has-right q v.numbers w.numbers) g.under));
        heard = (f.heard.0, f.heard.1 ∙ ap (λ (x : Part D). x.told ++ f.heard.0) (sym is));
      }

  -- the other's remaining view fits any list
  spent_fits : (k : ℕ) (log : List (Event D)) → FitsLog k log spent
  spent_fits k log = record { rest = log; begins = refl; others = (λ j d lt. refl); own = λ q c. refl; under = All-nil (IsUnder []); heard = (log, refl) }

module _ {D T B : Type 0} (does : ℕ → T → D → T → Type 0) (empty : T) (content : B → T) (beside : ℕ → List (Event D) → B → Type 0) (stripes passes : ℕ) where
  abbrev Rule : State (Option B) (View D) → Type 0
  Rule = Kept does empty content beside stripes passes

  module _ (views : List (View D)) (id : ℕ) (v : View D) (other : ℕ) (w u : View D) (at : At views id v) (there : At views other w) where
    abbrev left : List (View D)
    left = set (set views id u) other spent

    kind : (j : ℕ) (x : View D) → At left j x → ((j ≡ other) × (spent ≡ x)) ⊎ (((j ≡ id) × (u ≡ x)) ⊎ ((j ≢ id) × ((j ≢ other) × At views j x)))
    kind j x e = ⊎_elim
        (λ t. inl t)
        (λ t. inr (⊎_elim (λ s. inl s) (λ s. inr (s.0, (t.0, s.1))) (at_set views id j u x t.1)))
        (at_set (set views id u) other j spent x e)

    every : (F : View D → Type 0) → F spent → F u → ((j : ℕ) (x : View D) → At views j x → F x) → (j : ℕ) (x : View D) → At left j x → F x
    every F a b c j x e = ⊎_elim (λ t. subst F t.1 a) (λ t. ⊎_elim (λ s. subst F s.1 b) (λ s. c j x s.1.1) t) (kind j x e)

    -- a view that now carries a number is the united one, or carried it before
    carrier : (j : ℕ) (x : View D) (q : ℕ) → At left j x → Carries x q → ((j ≡ id) × Carries u q) ⊎ ((j ≢ id) × ((j ≢ other) × At views j x))
    carrier j x q e c = ⊎_elim
        (λ t. let none : Carries {D = D} spent q = subst (λ (z : View D). Carries z q) (sym t.1) c in absurd (true≢false (sym none)))
        (λ t. ⊎_elim (λ s. inl (s.0, subst (λ (z : View D). Carries z q) (sym s.1) c)) (λ s. inr s) t)
        (kind j x e)

    united_apart : ((q : ℕ) → Carries u q → Carries v q ⊎ Carries w q) → AreApart views → AreApart left
    united_apart split apart i j x y q ex ey cx cy = ⊎_elim
        (λ a. ⊎_elim (λ b. a.0 ∙ sym b.0) (λ b. absurd (alone j y q b cy (split q a.1))) (carrier j y q ey cy))
        (λ a. ⊎_elim (λ b. absurd (alone i x q a cx (split q b.1))) (λ b. apart i j x y q a.1.1 b.1.1 cx cy) (carrier j y q ey cy))
        (carrier i x q ex cx)
      where
        alone : (j : ℕ) (x : View D) (q : ℕ) → ((j ≢ id) × ((j ≢ other) × At views j x)) → Carries x q → Carries v q ⊎ Carries w q → ⊥
        alone j x q t c s = ⊎_elim (λ d. t.0 (apart j id x v q t.1.1 at c d)) (λ d. t.1.0 (apart j other x w q t.1.1 there c d)) s

    united_holding : other ≢ id → (k : ℕ) (log : List (Event D)) (word : ℕ) (home : Home B) → held_at v k ≡ false → held_at w k ≡ false → held_at u k ≡ false
        → IsFree does empty content beside k log word home views ⊎ IsHeld does empty content beside k log word home views → IsFree does empty content beside k log word home left ⊎ IsHeld does empty content beside k log word home left
    united_holding two k log word home idle idle' idle_u (inl f) = inl record {
      word_is = f.word_is;
      bins = f.bins;
      home_is = f.home_is;
      content_is = f.content_is;
      beside_is = f.beside_is;
      nobody = every (λ x. held_at x k ≡ false) refl idle_u f.nobody;
    }
    united_holding two k log word home idle idle' idle_u (inr b) =
        let far : (i : ℕ) (x : View D) → At views i x → held_at x k ≡ false → b.who ≢ i = λ i x at_i off e.
        true≢false (sym b.held ∙ (ap (λ (z : View D). held_at z k) (same_view views i b.view x (subst (λ n. At views n b.view) e b.at) at_i) ∙ off)) in
        inr record {
          word_is = b.word_is;
          home_is = b.home_is;
          who = b.who;
          view = b.view;
          at = set_else (set views id u) other b.who spent (far other w there idle') ∙ (set_else views id b.who u (far id v at idle) ∙ b.at);
          held = b.held;
          whole = b.whole;
          alone = λ j x e h. ⊎_elim
              (λ t. absurd (true≢false (sym h ∙ ap (λ (z : View D). held_at z k) (sym t.1))))
              (λ t. ⊎_elim (λ s. absurd (true≢false (sym h ∙ (ap (λ (z : View D). held_at z k) (sym s.1) ∙ idle_u)))) (λ s. b.alone j x s.1.1 h) t)
              (kind j x e);
        }

  pub unites : (id : ℕ) (v : View D) (other : ℕ) (w : View D) (q r : ℕ) → Carries v q → Carries w r → IsIdle v → IsIdle w → Joins Rule id v other w (united v w) spent
  unites id v other w q r c c' idle idle' s kept at two at' = let u = united v w in
      let there : At s.views other w = sym (set_else s.views id other u two) ∙ at' in
      let one = kept.counted id v at in let its = kept.counted other w there in
      let wide : length v.parts ≡ length w.parts = one.wide q c ∙ sym (its.wide r c') in
      let clash : (n : ℕ) → Carries v n → Carries w n → ⊥ = λ n a b. two (kept.apart other id w v n there at b a) in record {
        words = kept.words;
        between = kept.between;
        apart = united_apart s.views id v other w u at there (λ n. has-append n v.numbers w.numbers) kept.apart;
        counted = every s.views id v other w u at there (IsCounted stripes passes)
            record { wide = λ n h. absurd (true≢false (sym h)); count = λ n h. absurd (true≢false (sym h)); small = λ n h. absurd (true≢false (sym h)) }
            record { wide = λ n h. length-united v.parts w.parts ∙ one.wide q c; count = λ n h. one.count q c; small = λ n h. ⊎_elim (one.small n) (its.small n) (has-append n v.numbers w.numbers h) }
            kept.counted;
        stripe = λ k inside. let old = kept.stripe k inside in let t = old.1.1 in (
          old.0,
          (
            old.1.0,
            record {
              log = t.log;
              legal = t.legal;
              below = t.below;
              fits = every s.views id v other w u at there (FitsLog k t.log) (spent_fits k t.log) (both_fit k t.log v w wide clash (t.fits id v at) (t.fits other w there)) t.fits;
              holding = united_holding s.views id v other w u at there two k t.log (get_or s.words (word_at k) 0) old.0 (idle k) (idle' k) (ap (λ (p : Part D). p.held) (part_united v w k wide) ∙ idle k) t.holding;
            },
          ),
        );
      }

module _ {D : Type 0} where
  -- `before` heard everything from the other, was joined with it, and looked once more at some stripe
  pub joined : (stripes k : ℕ) (one other before after : View D) (held : Bool) → length before.parts ≡ length other.parts → Hears stripes other one before → k < stripes
      → Extends (united before other) k held after → IsJoined stripes one other after
  joined stripes k one other before after held wide heard inside e = record {
    numbers = e.sets.numbers ∙ ap (λ ns. ns ++ other.numbers) heard.numbers;
    mine = λ j less. mine_after j ∙ (ap (λ (p : Part D). p.mine) (part_united before other j wide) ∙ ap (λ l. l ++ mine_of other j) ((heard.gains j less).mine ∙ append-nil (mine_of one j)));
    begins = λ j less. let g = heard.gains j less in let t = seen_after j less in
        (g.between ++ t.0, t.1 ∙ (ap (λ l. l ++ t.0) (g.seen ∙ append-nil (seen_of one j ++ g.between)) ∙ append_assoc (seen_of one j) g.between t.0));
    begins_other = λ j less. let b = heard.begins j less in let t = seen_after j less in (b.0 ++ t.0, t.1 ∙ (ap (λ l. l ++ t.0) b.1 ∙ append_assoc (seen_of other j) b.0 t.0));
  }
    where
      at_each : (j : ℕ) (F : ℕ → Type 0) → (part_of after j ≡ part_of (united before other) j → F j) → F k → F j
      at_each j F same here = dite (ℕ_discrete j k) (λ is. subst F (sym is) here) (λ not. same (e.sets.elsewhere j not))

      mine_after : (j : ℕ) → mine_of after j ≡ mine_of (united before other) j
      mine_after j = at_each j (λ i. mine_of after i ≡ mine_of (united before other) i) (λ s. ap (λ (p : Part D). p.mine) s) (ap (λ (p : Part D). p.mine) e.sets.here)

      seen_united : (j : ℕ) → j < stripes → seen_of (united before other) j ≡ seen_of before j
      seen_united j less = ap (λ (p : Part D). p.seen) (part_united before other j wide) ∙ longer_is (seen_of before j) (seen_of other j) (heard.begins j less)

      seen_after : (j : ℕ) → j < stripes → StartsWith (seen_of after j) (seen_of before j)
      seen_after j less = at_each j (λ i. i < stripes → StartsWith (seen_of after i) (seen_of before i))
          (λ s l. ([], ap (λ (p : Part D). p.seen) s ∙ (seen_united j l ∙ sym (append-nil (seen_of before j)))))
          (λ l. (e.between, ap (λ (p : Part D). p.seen) e.sets.here ∙ ap (λ x. x ++ e.between) (seen_united k l))) less
