-- A look, and a take, won or lost, keep the rule.
use Rattle.std.proofs.Common.{◌≡◌, ◌≢◌, ℕ, ◌<◌, true, false, true≢false, eqb, List, ◌∷◌, get_or, set, Option, Some, refl, sym, ap, ◌∙◌, subst, inr, ⊎_elim, arith, eq-eqb, ne_eqb}
use mathlib.Core.Logic.{dite}
use mathlib.Core.Option as maybe
use native.Mathlib.Decide.{ℕ_discrete}
use prog.Atomic.{either}
use Rattle.atomic_table.specs.Table.{State, Me, step, keeps, takes, stepped, Allows}
use Rattle.atomic_table.proofs.Lists.{at_set, set_else}
use Rattle.stripe_rule.specs.declared.view.Event.{Event}
use Rattle.stripe_rule.specs.declared.view.Part.{Part}
use Rattle.stripe_rule.specs.declared.view.View.{View}
use Rattle.stripe_rule.specs.History.{Replays}
use Rattle.stripe_rule.specs.Gains.{part_of, seen_of, held_at, Carries}
use Rattle.stripe_rule.specs.Words.{word_at}
use Rattle.stripe_rule.specs.Rule.{At, FitsLog, IsFree, IsHeld, Stripe, Kept}
use Rattle.stripe_rule.specs.Steps.{lengthened, Looks, looked, Takes, took}
use Rattle.stripe_rule.proofs.ViewLemmas.{set_at, every_set, put_part, sets_put}
use Rattle.stripe_rule.proofs.StripeLemmas.{fits_seen, stripe_set, kept_set, sound_of}

module _ {D T B : Type 0} (does : ℕ → T → D → T → Type 0) (empty : T) (content : B → T) (beside : ℕ → List (Event D) → B → Type 0) (stripes passes : ℕ) where
  abbrev Rule : State (Option B) (View D) → Type 0
  Rule = Kept does empty content beside stripes passes

  -- the state and the view after a look, if the word stays
  pub look : (s : State (Option B) (View D)) (id k : ℕ) (me : Me (Option B) (View D)) (q : ℕ) → Rule s → At s.views id me.0 → k < stripes → Carries me.0 q
      → (w : View D) × (Rule record { words = set s.words (word_at k) (get_or s.words (word_at k) 0); homes = s.homes; views = set s.views id w } × Looks does empty k me (w, me.1))
  look s id k me q r at inside c = let v = me.0 in let n : ℕ = get_or s.words (word_at k) 0 in let here = r.stripe k inside in let t = here.1.1 in let f = t.fits id v at in
      let part = lengthened (part_of v k) f.rest (held_at v k) in let w = put_part v k part in
      let sets = sets_put v k part (let l = (r.counted id v at).wide q c in omega arith) in
      let seen : seen_of w k ≡ t.log = ap (λ (p : Part D). p.seen) sets.here ∙ sym f.begins in
      let kept : Rule record { words = set s.words (word_at k) n; homes = s.homes; views = set s.views id w } = kept_set does empty content beside stripes passes s id v w k n part here.0 s.homes r at inside sets
      (stripe_set does empty content beside passes k n here.0 s.views id v w t at (fits_seen k t.log v w (held_at v k) f sets) (ap (λ (p : Part D). p.held) sets.here) (λ _. seen)) here.1.0 (λ j other. refl) in (
        w,
        (
          kept,
          record {
            extends = record { between = f.rest; others = f.others; sets = sets };
            heard = (f.heard.0, seen ∙ f.heard.1);
            sound = sound_of does empty content beside stripes passes record { words = set s.words (word_at k) n; homes = s.homes; views = set s.views id w } id w q kept (set_at s.views id v w at) c;
            out = refl;
          },
        ),
      )

  -- the state and the view after a take of a free stripe
  take : (s : State (Option B) (View D)) (id k : ℕ) (me : Me (Option B) (View D)) (q : ℕ) (r : Rule s) → At s.views id me.0 → (inside : k < stripes) → Carries me.0 q
      → (f : IsFree does empty content beside k (r.stripe k inside).1.1.log (get_or s.words (word_at k) 0) (r.stripe k inside).0 s.views)
      → (w : View D) × (Rule record { words = set s.words (word_at k) 1; homes = set s.homes k maybe.none; views = set s.views id w } × Takes does empty content beside k me (w, (k, Some f.bins) ∷ me.1))
  take s id k me q r at inside c free = let v = me.0 in let here = r.stripe k inside in let t = here.1.1 in let f = t.fits id v at in
      let part = lengthened (part_of v k) f.rest true in let w = put_part v k part in
      let sets = sets_put v k part (let l = (r.counted id v at).wide q c in omega arith) in
      let seen : seen_of w k ≡ t.log = ap (λ (p : Part D). p.seen) sets.here ∙ sym f.begins in
      let stripe : Stripe does empty content beside passes k 1 maybe.none (set s.views id w) = record {
        log = t.log;
        legal = t.legal;
        below = t.below;
        fits = every_set (FitsLog k t.log) s.views id w (fits_seen k t.log v w true f sets) t.fits;
        holding = inr record {
          word_is = refl;
          home_is = refl;
          who = id;
          view = w;
          at = set_at s.views id v w at;
          held = ap (λ (p : Part D). p.held) sets.here;
          whole = seen;
          alone = λ j u e h. ⊎_elim
              (λ (x : (j ≡ id) × (w ≡ u)). x.0)
              (λ (x : (j ≢ id) × At s.views j u). absurd (true≢false (sym h ∙ free.nobody j u x.1)))
              (at_set s.views id j w u e);
        };
      } in
      let kept : Rule record { words = set s.words (word_at k) 1; homes = set s.homes k maybe.none; views = set s.views id w } = kept_set does empty content beside stripes passes s id v w k 1 part maybe.none (set s.homes k maybe.none)
      r at inside sets stripe (set_at s.homes k here.0 maybe.none here.1.0) (λ j other. set_else s.homes k j maybe.none other) in (
        w,
        (
          kept,
          record {
            extends = record { between = f.rest; others = f.others; sets = sets };
            sound = sound_of does empty content beside stripes passes record { words = set s.words (word_at k) 1; homes = set s.homes k maybe.none; views = set s.views id w } id w q kept (set_at s.views id v w at) c;
            out = record { bins = free.bins; out = refl; content_is = subst (λ l. Replays (does k) empty l (content free.bins)) (sym seen) free.content_is; beside_is = subst (λ l. beside k l free.bins) (sym seen) free.beside_is };
          },
        ),
      )

  module _ (slots id k : ℕ) (me : Me (Option B) (View D)) (q : ℕ) where
    pub looks : k < stripes → Carries me.0 q → Allows Rule slots id me (word_at k) (λ n. n) (looked does empty (step slots (word_at k) 0 0 maybe.none) me)
    looks inside c s r _ at small = let t = look s id k me q r at inside c in (t.0, keeps, tt, t.1.0, λ j e. let same : k ≡ j = omega arith in subst (λ i. Looks does empty i me (t.0, me.1)) same t.1.1)

    pub takes_it : k < stripes → Carries me.0 q → held_at me.0 k ≡ false → Allows Rule slots id me (word_at k) (λ n. either (eqb n 0) 1 n) (took does empty content beside (step slots (word_at k) 0 1 maybe.none) me)
    takes_it inside c idle s r _ at small = let n : ℕ = get_or s.words (word_at k) 0 in let here = r.stripe k inside in dite (ℕ_discrete n 0)
        (λ hit. ⊎_elim
        (λ (f : IsFree does empty content beside k here.1.1.log n here.0 s.views). let t = take s id k me q r at inside c f in (
          t.0,
          takes k (Some f.bins),
          here.1.0 ∙ ap maybe.some f.home_is,
          subst (λ b. Rule (stepped s (word_at k) (either b 1 n) id me.1 t.0 (takes k (Some f.bins)))) (sym (eq-eqb n 0 hit)) t.1.0,
          λ j e. let same : k ≡ j = omega arith in ((λ _. subst (λ i. Takes does empty content beside i me (t.0, (k, Some f.bins) ∷ me.1)) same t.1.1), λ not. absurd (not hit)),
        ))
        (λ (b : IsHeld does empty content beside k here.1.1.log n here.0 s.views). absurd (let is = b.word_is in omega arith))
        here.1.1.holding)
        (λ miss. let t = look s id k me q r at inside c in (
          t.0,
          keeps,
          tt,
          subst (λ b. Rule (stepped s (word_at k) (either b 1 n) id me.1 t.0 keeps)) (sym (ne_eqb n 0 miss)) t.1.0,
          λ j e. let same : k ≡ j = omega arith in ((λ hit. absurd (miss hit)), λ _. subst (λ i. Looks does empty i me (t.0, me.1)) same t.1.1),
        ))
