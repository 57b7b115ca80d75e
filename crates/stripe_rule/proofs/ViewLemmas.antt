-- Lists of views in which one changes, and a view in which one part changes.
use Rattle.std.proofs.Common.{◌≡◌, ◌≢◌, ◌⊎◌, ℕ, zero, suc, ◌<◌, ◌≤◌, List, [], ◌∷◌, ◌++◌, length, get_or, set, refl, sym, ap, ◌∙◌, subst, inl, inr, ⊎_elim, arith, length-set, get_or-set_same, get_or-set_other}
use mathlib.Core.Option as maybe
use lib.ListN.{get_elem?}
use Rattle.atomic_table.proofs.Lists.{at_set}
use Rattle.stripe_rule.specs.declared.view.Part.{Part}
use Rattle.stripe_rule.specs.declared.view.View.{View}
use Rattle.stripe_rule.specs.History.{has}
use Rattle.stripe_rule.specs.Gains.{blank}
use Rattle.stripe_rule.specs.Rule.{At, AreApart, IsCounted}
use Rattle.stripe_rule.specs.Steps.{SetsPart}

module _ {A : Type 0} where
  pub set_at : (l : List A) (i : ℕ) (a b : A) → get_elem? l i ≡ maybe.some a → get_elem? (set l i b) i ≡ maybe.some b
  set_at [] i a b e = absurd (maybe.some-ne-none a (sym e))
  set_at (x ∷ xs) zero a b e = refl
  set_at (x ∷ xs) (suc i) a b e = set_at xs i a b e

  pub at_end : (l : List A) (a b : A) (j : ℕ) → get_elem? (l ++ a ∷ []) j ≡ maybe.some b → (get_elem? l j ≡ maybe.some b) ⊎ ((j ≡ length l) × (a ≡ b))
  at_end [] a b zero e = inr (refl, maybe.some-injective a b e)
  at_end [] a b (suc j) e = absurd (maybe.some-ne-none b (sym e))
  at_end (x ∷ xs) a b zero e = inl e
  at_end (x ∷ xs) a b (suc j) e = ⊎_elim inl (λ t. inr (ap suc t.0, t.1)) (at_end xs a b j e)

  pub get_or-beyond : (l : List A) (i : ℕ) (d : A) → length l ≤ i → get_or l i d ≡ d
  get_or-beyond [] i d h = refl
  get_or-beyond (x ∷ xs) zero d h = absurd (omega arith)
  get_or-beyond (x ∷ xs) (suc i) d h = get_or-beyond xs i d (omega arith)

module _ {D : Type 0} where
  -- a fact about the new view that held of all still holds of all
  pub every_set : (F : View D → Type 0) (views : List (View D)) (id : ℕ) (w : View D) → F w → ((j : ℕ) (u : View D) → At views j u → F u) → (j : ℕ) (u : View D) → At (set views id w) j u → F u
  every_set F views id w new old j u e = ⊎_elim (λ (t : (j ≡ id) × (w ≡ u)). subst F t.1 new) (λ (t : (j ≢ id) × At views j u). old j u t.1) (at_set views id j w u e)

  pub same_view : (views : List (View D)) (id : ℕ) (v w : View D) → At views id v → At views id w → v ≡ w
  same_view views id v w a b = maybe.some-injective v w (sym a ∙ b)

  -- if one view changes and keeps its numbers, each number is still carried once
  pub apart_set : (views : List (View D)) (id : ℕ) (v w : View D) → At views id v → w.numbers ≡ v.numbers → AreApart views → AreApart (set views id w)
  apart_set views id v w at same apart i j x y q ex ey cx cy = let a = was i x ex in let b = was j y ey in
      apart i j a.0 b.0 q a.1.0 b.1.0 (ap (has q) a.1.1 ∙ cx) (ap (has q) b.1.1 ∙ cy)
    where
      was : (k : ℕ) (u : View D) → At (set views id w) k u → (o : View D) × (At views k o × (o.numbers ≡ u.numbers))
      was k u e = ⊎_elim
          (λ (t : (k ≡ id) × (w ≡ u)). (v, (subst (λ n. At views n v) (sym t.0) at, sym same ∙ ap (λ (z : View D). z.numbers) t.1)))
          (λ (t : (k ≢ id) × At views k u). (u, (t.1, refl)))
          (at_set views id k w u e)

  pub counted_same : (stripes passes : ℕ) (v w : View D) → w.numbers ≡ v.numbers → w.passes ≡ v.passes → length w.parts ≡ length v.parts → IsCounted stripes passes v → IsCounted stripes passes w
  counted_same stripes passes v w numbers count wide c = record {
    wide = λ q h. wide ∙ c.wide q (ap (has q) (sym numbers) ∙ h);
    count = λ q h. count ∙ c.count q (ap (has q) (sym numbers) ∙ h);
    small = λ q h. c.small q (ap (has q) (sym numbers) ∙ h);
  }

  -- the view with another part
  abbrev pub put_part : View D → ℕ → Part D → View D
  put_part v k p = record { numbers = v.numbers; passes = v.passes; parts = set v.parts k p }

  pub sets_put : (v : View D) (k : ℕ) (p : Part D) → k < length v.parts → SetsPart v k p (put_part v k p)
  sets_put v k p inside = record {
    numbers = refl;
    passes = refl;
    wide = length-set v.parts k p;
    here = get_or-set_same v.parts k p blank inside;
    elsewhere = λ j other. get_or-set_other v.parts k j p blank (λ e. other e);
  }
