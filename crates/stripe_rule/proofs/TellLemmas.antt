-- A pass is told what another has seen; its looks then show it.
use Rattle.std.proofs.Common.{◌≡◌, ℕ, zero, suc, ◌+◌, List, [], ◌∷◌, ◌++◌, length, get_or, set, Option, refl, sym, ap, ◌∙◌, subst, arith}
use mathlib.Core.Logic.{dite}
use native.Mathlib.Decide.{ℕ_discrete}
use Rattle.atomic_table.specs.Table.{State}
use Rattle.stripe_rule.specs.declared.view.Event.{Event}
use Rattle.stripe_rule.specs.declared.view.Part.{Part}
use Rattle.stripe_rule.specs.declared.view.View.{View}
use Rattle.stripe_rule.specs.History.{has, made_by, AreUnder, AreOthers, StartsWith}
use Rattle.stripe_rule.specs.Gains.{blank, part_of, seen_of, told_of, held_at, Carries, Hears}
use Rattle.stripe_rule.specs.Words.{word_at}
use Rattle.stripe_rule.specs.Rule.{At, IsCounted, FitsLog, Kept}
use Rattle.stripe_rule.specs.Steps.{Extends, told_part, IsTold, HasHeard}
use Rattle.stripe_rule.proofs.ViewLemmas.{every_set, apart_set, counted_same}
use Rattle.stripe_rule.proofs.StripeLemmas.{stripe_set}
use Rattle.stripe_rule.proofs.CallLemmas.{gains_none, gains_more}

module _ {D : Type 0} where
  -- each part is told what the other's part has seen
  abbrev told_parts : List (Part D) → List (Part D) → List (Part D)
  told_parts [] qs = []
  told_parts (p ∷ ps) [] = p ∷ ps
  told_parts (p ∷ ps) (q ∷ qs) = told_part p q.seen ∷ told_parts ps qs

  length-told_parts : (ps qs : List (Part D)) → length (told_parts ps qs) ≡ length ps
  length-told_parts [] qs = refl
  length-told_parts (p ∷ ps) [] = refl
  length-told_parts (p ∷ ps) (q ∷ qs) = ap suc (length-told_parts ps qs)

  get_or-told_parts : (ps qs : List (Part D)) (k : ℕ) → length ps ≡ length qs → get_or (told_parts ps qs) k blank ≡ told_part (get_or ps k blank) (get_or qs k blank).seen
  get_or-told_parts [] [] k e = refl
  get_or-told_parts [] (q ∷ qs) k e = absurd (omega arith)
  get_or-told_parts (p ∷ ps) [] k e = absurd (omega arith)
  get_or-told_parts (p ∷ ps) (q ∷ qs) zero e = refl
  get_or-told_parts (p ∷ ps) (q ∷ qs) (suc k) e = get_or-told_parts ps qs k (omega arith)

  -- the view that is told all that the other has seen
  abbrev hearing : View D → View D → View D
  hearing v from = record { numbers = v.numbers; passes = v.passes; parts = told_parts v.parts from.parts }

  is_told : (v from : View D) → length v.parts ≡ length from.parts → IsTold from v (hearing v from)
  is_told v from e = record { numbers = refl; passes = refl; wide = length-told_parts v.parts from.parts; parts = λ k. get_or-told_parts v.parts from.parts k e }

  -- a view that is told fits as before
  told_fits : (k : ℕ) (log : List (Event D)) (v from u : View D) → FitsLog k log v → FitsLog k log from → u.numbers ≡ v.numbers → part_of u k ≡ told_part (part_of v k) (seen_of from k) → FitsLog k log u
  told_fits k log v from u f g numbers part = record {
    rest = f.rest;
    begins = f.begins ∙ ap (λ (p : Part D). p.seen ++ f.rest) (sym part);
    others = subst (λ ns. AreOthers ns f.rest) (sym numbers) f.others;
    own = λ q c. ap (λ (p : Part D). made_by q p.seen) part ∙ (f.own q (ap (has q) (sym numbers) ∙ c) ∙ ap (λ (p : Part D). made_by q p.mine) (sym part));
    under = subst (λ (z : List ℕ × Part D). AreUnder z.0 z.1.mine) (λ i. (sym numbers i, sym part i)) f.under;
    heard = (g.rest, g.begins ∙ ap (λ (p : Part D). p.told ++ g.rest) (sym part));
  }

module _ {D T B : Type 0} (does : ℕ → T → D → T → Type 0) (empty : T) (content : B → T) (beside : ℕ → List (Event D) → B → Type 0) (stripes passes : ℕ) where
  abbrev Rule : State (Option B) (View D) → Type 0
  Rule = Kept does empty content beside stripes passes

  -- a pass is told, without a step on a word
  pub told_by : (id : ℕ) (v : View D) (other : ℕ) (from : View D) (q r : ℕ) → Carries v q → Carries from r → (s : State (Option B) (View D)) → Rule s → At s.views id v → At s.views other from
      → (u : View D) × (Rule record { words = s.words; homes = s.homes; views = set s.views id u } × IsTold from v u)
  told_by id v other from q r c c' s kept at there = let u = hearing v from in
      let e : length v.parts ≡ length from.parts = (kept.counted id v at).wide q c ∙ sym ((kept.counted other from there).wide r c') in
      let told = is_told v from e in (
        u,
        (
          record {
            words = kept.words;
            between = kept.between;
            apart = apart_set s.views id v u at refl kept.apart;
            counted = every_set (IsCounted stripes passes) s.views id u (counted_same stripes passes v u refl refl told.wide (kept.counted id v at)) kept.counted;
            stripe = λ k inside. let old = kept.stripe k inside in let t = old.1.1 in (
              old.0,
              (
                old.1.0,
                stripe_set does empty content beside passes k (get_or s.words (word_at k) 0) old.0 s.views id v u t at (told_fits k t.log v from u (t.fits id v at) (t.fits other from there) refl (told.parts k))
                    (ap (λ (p : Part D). p.held) (told.parts k)) (λ whole. ap (λ (p : Part D). p.seen) (told.parts k) ∙ whole),
              ),
            );
          },
          told,
        ),
      )

module _ {D : Type 0} where
  -- just told, it has looked at no stripe yet
  pub heard_none : (from v u : View D) → IsTold from v u → HasHeard from v 0 u
  heard_none from v u t = record {
    numbers = t.numbers;
    passes = t.passes;
    wide = t.wide;
    held = λ k. ap (λ (p : Part D). p.held) (t.parts k);
    told = λ k. ap (λ (p : Part D). p.told) (t.parts k);
    gains = λ k. gains_none v u k (ap (λ (p : Part D). p.seen) (t.parts k)) (ap (λ (p : Part D). p.mine) (t.parts k));
    begins = λ k less. absurd (omega arith);
  }

  -- it looks at the next stripe
  pub heard_more : (from v w u : View D) (n : ℕ) → HasHeard from v n w → Extends w n (held_at w n) u → StartsWith (seen_of u n) (told_of w n) → HasHeard from v (n + 1) u
  heard_more from v w u n h e begins = record {
    numbers = e.sets.numbers ∙ h.numbers;
    passes = e.sets.passes ∙ h.passes;
    wide = e.sets.wide ∙ h.wide;
    held = λ k. at_each k (λ (z : View D) (i : ℕ). held_at z i ≡ held_at v i) (λ z i a b. ap (λ (p : Part D). p.held) a ∙ b) (h.held k) (ap (λ (p : Part D). p.held) e.sets.here ∙ h.held n);
    told = λ k. at_each k (λ (z : View D) (i : ℕ). told_of z i ≡ seen_of from i) (λ z i a b. ap (λ (p : Part D). p.told) a ∙ b) (h.told k) (ap (λ (p : Part D). p.told) e.sets.here ∙ h.told n);
    gains = gains_more v w u n (held_at w n) h.numbers h.gains e;
    begins = λ k less. dite (ℕ_discrete k n)
        (λ is. subst (λ i. StartsWith (seen_of u i) (seen_of from i)) (sym is) (begins.0, begins.1 ∙ ap (λ l. l ++ begins.0) (h.told n)))
        (λ other. let b = h.begins k (omega arith) in (b.0, ap (λ (p : Part D). p.seen) (e.sets.elsewhere k other) ∙ b.1));
  }
    where
      -- a fact about the stripe just looked at, and already about the others
      at_each : (k : ℕ) (F : View D → ℕ → Type 0) → ((z : View D) (i : ℕ) → part_of u i ≡ part_of w i → F w i → F u i) → F w k → F u n → F u k
      at_each k F same old new = dite (ℕ_discrete k n) (λ is. subst (F u) (sym is) new) (λ other. same u k (e.sets.elsewhere k other) old)

  -- it has looked at all stripes
  pub hears : (from v w : View D) (stripes : ℕ) → HasHeard from v stripes w → Hears stripes from v w
  hears from v w stripes h = record { numbers = h.numbers; gains = λ k _. h.gains k; begins = h.begins }
