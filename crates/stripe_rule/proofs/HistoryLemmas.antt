-- Lists of events.
use Rattle.std.proofs.Common.{◌≡◌, ◌⊎◌, ℕ, ◌<◌, Bool, true, false, true≢false, eqb, ◌||◌, cond, List, [], ◌∷◌, ◌++◌, refl, sym, ap, ◌∙◌, subst, inl, inr, ⊎_elim, arith, append-nil, All}
use Rattle.std.proofs.lemmas.List.Elements.{All-nil, All-cons, All-head, All-tail, All-weaker}
use Rattle.stripe_rule.specs.declared.view.Event.{Event}
use Rattle.stripe_rule.specs.History.{has, made_by, AreUnder, AreOthers, AreBelow, Replays, IsLegal}

pub bool_cases : (b : Bool) → (b ≡ true) ⊎ (b ≡ false)
bool_cases true = inl refl
bool_cases false = inr refl

pub not_true : (b : Bool) → (b ≡ true → ⊥) → b ≡ false
not_true b not = ⊎_elim (λ t. absurd (not t)) (λ f. f) (bool_cases b)

pub eq_of : (q n : ℕ) → eqb q n ≡ true → q ≡ n
eq_of q n e = grind (arith)

pub has-append : (q : ℕ) (ns ms : List ℕ) → has q (ns ++ ms) ≡ true → (has q ns ≡ true) ⊎ (has q ms ≡ true)
has-append q [] ms e = inr e
has-append q (n ∷ ns) ms e = elim (eqb q n) as (λ b. (b || has q (ns ++ ms)) ≡ true → ((b || has q ns) ≡ true) ⊎ (has q ms ≡ true))
    [ true ↦ (λ x. inl refl) | false ↦ has-append q ns ms ] e

pub has-left : (q : ℕ) (ns ms : List ℕ) → has q ns ≡ true → has q (ns ++ ms) ≡ true
has-left q [] ms e = absurd (true≢false (sym e))
has-left q (n ∷ ns) ms e = elim (eqb q n) as (λ b. (b || has q ns) ≡ true → (b || has q (ns ++ ms)) ≡ true) [ true ↦ (λ x. refl) | false ↦ has-left q ns ms ] e

pub has-right : (q : ℕ) (ns ms : List ℕ) → has q ms ≡ true → has q (ns ++ ms) ≡ true
has-right q [] ms e = e
has-right q (n ∷ ns) ms e = elim (eqb q n) as (λ b. (b || has q (ns ++ ms)) ≡ true) [ true ↦ refl | false ↦ has-right q ns ms e ]

module _ {X : Type 0} (P : X → Type 0) where
  -- a fact about all holds of those in front
  pub All-front : (xs ys : List X) → All P (xs ++ ys) → All P xs
  All-front [] ys h = All-nil P
  All-front (x ∷ xs) ys h = All-cons P x xs (All-head P x (xs ++ ys) h) (All-front xs ys (All-tail P x (xs ++ ys) h))

  -- and of those at the back
  pub All-back : (xs ys : List X) → All P (xs ++ ys) → All P ys
  All-back [] ys h = h
  All-back (x ∷ xs) ys h = All-back xs ys (All-tail P x (xs ++ ys) h)

module _ {D : Type 0} where
  abbrev pub IsUnder : List ℕ → Event D → Type 0
  IsUnder ns e = has e.by ns ≡ true

  abbrev pub IsOther : List ℕ → Event D → Type 0
  IsOther ns e = has e.by ns ≡ false

  abbrev pub IsBelow : ℕ → Event D → Type 0
  IsBelow n e = e.by < n

  pub made_by-append : (q : ℕ) (xs ys : List (Event D)) → made_by q (xs ++ ys) ≡ made_by q xs ++ made_by q ys
  made_by-append q [] ys = refl
  made_by-append q (e ∷ es) ys = elim (eqb q e.by) as (λ b. cond b (e ∷ made_by q (es ++ ys)) (made_by q (es ++ ys)) ≡ cond b (e ∷ made_by q es) (made_by q es) ++ made_by q ys)
      [ true ↦ ap (λ l. e ∷ l) (made_by-append q es ys) | false ↦ made_by-append q es ys ]

  -- no event of others has a number that it carries
  pub others_none : (ns : List ℕ) (q : ℕ) (es : List (Event D)) → has q ns ≡ true → AreOthers ns es → made_by q es ≡ []
  others_none ns q [] carried others = refl
  others_none ns q (e ∷ es) carried others = ⊎_elim
      (λ (same : eqb q e.by ≡ true). absurd (true≢false (sym carried ∙ (ap (λ n. has n ns) (eq_of q e.by same) ∙ All-head (IsOther ns) e es others))))
      (λ (other : eqb q e.by ≡ false). ap (λ b. cond b (e ∷ made_by q es) (made_by q es)) other ∙ others_none ns q es carried (All-tail (IsOther ns) e es others))
      (bool_cases (eqb q e.by))

  -- no event with these numbers has another number
  pub under_none : (ns : List ℕ) (q : ℕ) (es : List (Event D)) → has q ns ≡ false → AreUnder ns es → made_by q es ≡ []
  under_none ns q [] out under = refl
  under_none ns q (e ∷ es) out under = ⊎_elim
      (λ (same : eqb q e.by ≡ true). absurd (true≢false (sym (All-head (IsUnder ns) e es under) ∙ (ap (λ n. has n ns) (sym (eq_of q e.by same)) ∙ out))))
      (λ (other : eqb q e.by ≡ false). ap (λ b. cond b (e ∷ made_by q es) (made_by q es)) other ∙ under_none ns q es out (All-tail (IsUnder ns) e es under))
      (bool_cases (eqb q e.by))

  -- events with these numbers are others' to a view that carries none of them
  pub under_others : (ns ms : List ℕ) (es : List (Event D)) → ((q : ℕ) → has q ns ≡ true → has q ms ≡ true → ⊥) → AreUnder ns es → AreOthers ms es
  under_others ns ms es apart under = All-weaker (IsUnder ns) (IsOther ms) (λ e h. not_true (has e.by ms) (λ c. apart e.by h c)) es under

  -- and to one that carries fewer
  pub others_fewer : (ns ms : List ℕ) (es : List (Event D)) → ((q : ℕ) → has q ms ≡ true → has q ns ≡ true) → AreOthers ns es → AreOthers ms es
  others_fewer ns ms es sub others = All-weaker (IsOther ns) (IsOther ms) (λ e h. not_true (has e.by ms) (λ c. true≢false (sym (sub e.by c) ∙ h))) es others

  pub under_more : (ns ms : List ℕ) (es : List (Event D)) → ((q : ℕ) → has q ns ≡ true → has q ms ≡ true) → AreUnder ns es → AreUnder ms es
  under_more ns ms es sub under = All-weaker (IsUnder ns) (IsUnder ms) (λ e h. sub e.by h) es under

  pub under_below : (ns : List ℕ) (n : ℕ) (es : List (Event D)) → ((q : ℕ) → has q ns ≡ true → q < n) → AreUnder ns es → AreBelow n es
  under_below ns n es small under = All-weaker (IsUnder ns) (IsBelow n) (λ e h. small e.by h) es under

  -- others' events at the end don't change a view's own events
  pub made_by-others : (ns : List ℕ) (q : ℕ) (xs ys : List (Event D)) → has q ns ≡ true → AreOthers ns ys → made_by q (xs ++ ys) ≡ made_by q xs
  made_by-others ns q xs ys carried others = made_by-append q xs ys ∙ (ap (λ l. made_by q xs ++ l) (others_none ns q ys carried others) ∙ append-nil (made_by q xs))

module _ {D T : Type 0} (does : T → D → T → Type 0) where
  pub Replays-append : (t u w : T) (xs ys : List (Event D)) → Replays does t xs u → Replays does u ys w → Replays does t (xs ++ ys) w
  Replays-append t u w [] ys r s = subst (λ z. Replays does z ys w) r s
  Replays-append t u w (e ∷ es) ys r s = (r.0, (r.1.0, Replays-append r.0 u w es ys r.1.1 s))

  pub Replays-split : (t w : T) (xs ys : List (Event D)) → Replays does t (xs ++ ys) w → (u : T) × (Replays does t xs u × Replays does u ys w)
  Replays-split t w [] ys r = (t, (refl, r))
  Replays-split t w (e ∷ es) ys r = let s = Replays-split r.0 w es ys r.1.1 in (s.0, ((r.0, (r.1.0, s.1.0)), s.1.1))

  -- a beginning of a legal list is legal
  pub legal_front : (empty : T) (xs ys : List (Event D)) → IsLegal does empty (xs ++ ys) → IsLegal does empty xs
  legal_front empty xs ys l = let s = Replays-split empty l.0 xs ys l.1 in (s.0, s.1.0)
