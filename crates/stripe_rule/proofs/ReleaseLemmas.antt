-- A release keeps the rule.
use Rattle.std.proofs.Common.{◌≡◌, ◌≢◌, ℕ, ◌<◌, true, false, true≢false, List, [], ◌∷◌, ◌++◌, get_or, set, Option, Some, refl, sym, ap, ◌∙◌, subst, inl, ⊎_elim, arith, append-nil, append_assoc}
use Rattle.std.proofs.lemmas.List.Elements.{All-nil, All-append}
use mathlib.Core.Option as maybe
use Rattle.atomic_table.specs.Table.{State, Me, step, gives, Allows}
use Rattle.atomic_table.proofs.Lists.{at_set, set_else}
use Rattle.stripe_rule.specs.declared.view.Event.{Event}
use Rattle.stripe_rule.specs.declared.view.Part.{Part}
use Rattle.stripe_rule.specs.declared.view.View.{View}
use Rattle.stripe_rule.specs.History.{has, made_by, AreUnder, AreOthers, Replays}
use Rattle.stripe_rule.specs.Gains.{part_of, seen_of, mine_of, held_at, Carries}
use Rattle.stripe_rule.specs.Words.{word_at}
use Rattle.stripe_rule.specs.Rule.{At, FitsLog, IsFree, IsHeld, Stripe, Kept}
use Rattle.stripe_rule.specs.Steps.{SetsPart, Releases, grown, released}
use Rattle.stripe_rule.proofs.HistoryLemmas.{IsUnder, IsOther, IsBelow, not_true, made_by-append, under_others, under_below}
use Rattle.stripe_rule.proofs.ViewLemmas.{set_at, same_view, put_part, sets_put}
use Rattle.stripe_rule.proofs.StripeLemmas.{kept_set, sound_of}

module _ {D : Type 0} where
  -- the view of the pass that made the events and had seen the whole list before
  grown_fits : (k : ℕ) (log more : List (Event D)) (v w : View D) → FitsLog k log v → seen_of v k ≡ log → AreUnder v.numbers more → SetsPart v k (grown (part_of v k) more) w → FitsLog k (log ++ more) w
  grown_fits k log more v w f whole under sets = let seen : seen_of w k ≡ log ++ more = ap (λ (p : Part D). p.seen) sets.here ∙ ap (λ (l : List (Event D)). l ++ more) whole in record {
    rest = [];
    begins = sym seen ∙ sym (append-nil (seen_of w k));
    others = All-nil (λ (e : Event D). has e.by w.numbers ≡ false);
    own = λ q c. let c' : Carries v q = ap (has q) (sym sets.numbers) ∙ c in ap (λ (p : Part D). made_by q p.seen) sets.here
        ∙ (made_by-append q (seen_of v k) more ∙ (ap (λ (l : List (Event D)). l ++ made_by q more) (f.own q c') ∙ (sym (made_by-append q (mine_of v k) more) ∙ ap (λ (p : Part D). made_by q p.mine) (sym sets.here))));
    under = subst (λ (z : List ℕ × Part D). AreUnder z.0 z.1.mine) (λ i. (sym sets.numbers i, sym sets.here i)) (All-append (IsUnder v.numbers) (mine_of v k) more f.under under);
    heard = (f.heard.0 ++ more, ap (λ (l : List (Event D)). l ++ more) f.heard.1 ∙ (append_assoc (part_of v k).told f.heard.0 more ∙ ap (λ (p : Part D). p.told ++ (f.heard.0 ++ more)) (sym sets.here)));
  }

  -- the view of another, to whom they are others' events
  others_fit : (k : ℕ) (log more : List (Event D)) (u : View D) → FitsLog k log u → AreOthers u.numbers more → FitsLog k (log ++ more) u
  others_fit k log more u f others = record {
    rest = f.rest ++ more;
    begins = ap (λ (l : List (Event D)). l ++ more) f.begins ∙ append_assoc (seen_of u k) f.rest more;
    others = All-append (IsOther u.numbers) f.rest more f.others others;
    own = f.own;
    under = f.under;
    heard = (f.heard.0 ++ more, ap (λ (l : List (Event D)). l ++ more) f.heard.1 ∙ append_assoc (part_of u k).told f.heard.0 more);
  }

module _ {D T B : Type 0} (does : ℕ → T → D → T → Type 0) (empty : T) (content : B → T) (beside : ℕ → List (Event D) → B → Type 0) (stripes passes : ℕ) where
  abbrev Rule : State (Option B) (View D) → Type 0
  Rule = Kept does empty content beside stripes passes

  -- the stripe after a release
  release_stripe : (s : State (Option B) (View D)) (id k : ℕ) (v w : View D) (b : B) (more : List (Event D)) (r : Rule s) → At s.views id v → (inside : k < stripes) → held_at v k ≡ true
      → Replays (does k) empty (seen_of v k ++ more) (content b) → beside k (seen_of v k ++ more) b → AreUnder v.numbers more → SetsPart v k (grown (part_of v k) more) w
      → Stripe does empty content beside passes k 0 (maybe.some (Some b)) (set s.views id w)
  release_stripe s id k v w b more r at inside held content_is beside_is under sets = let t = (r.stripe k inside).1.1 in ⊎_elim
      (λ (free : IsFree does empty content beside k t.log (get_or s.words (word_at k) 0) (r.stripe k inside).0 s.views). absurd (true≢false (sym held ∙ free.nobody id v at)))
      (λ (busy : IsHeld does empty content beside k t.log (get_or s.words (word_at k) 0) (r.stripe k inside).0 s.views).
      let here : id ≡ busy.who = busy.alone id v at held in
      let whole : seen_of v k ≡ t.log = ap (λ (z : View D). seen_of z k) (same_view s.views busy.who v busy.view (subst (λ i. At s.views i v) here at) busy.at) ∙ busy.whole in
      let log : List (Event D) = t.log ++ more in
      let same : seen_of v k ++ more ≡ log = ap (λ (l : List (Event D)). l ++ more) whole in
      let replays : Replays (does k) empty log (content b) = subst (λ l. Replays (does k) empty l (content b)) same content_is in record {
        log = log;
        legal = (content b, replays);
        below = All-append (IsBelow passes) t.log more t.below (under_below v.numbers passes more (r.counted id v at).small under);
        fits = λ j u e. ⊎_elim
            (λ (x : (j ≡ id) × (w ≡ u)). subst (FitsLog k log) x.1 (grown_fits k t.log more v w (t.fits id v at) whole under sets))
            (λ (x : (j ≢ id) × At s.views j u). others_fit k t.log more u (t.fits j u x.1) (under_others v.numbers u.numbers more (λ q mine theirs. x.0 (r.apart j id u v q x.1 at theirs mine)) under))
            (at_set s.views id j w u e);
        holding = inl record {
          word_is = refl;
          bins = b;
          home_is = refl;
          content_is = replays;
          beside_is = subst (λ l. beside k l b) same beside_is;
          nobody = λ j u e. ⊎_elim
              (λ (x : (j ≡ id) × (w ≡ u)). ap (λ (z : View D). held_at z k) (sym x.1) ∙ ap (λ (p : Part D). p.held) sets.here)
              (λ (x : (j ≢ id) × At s.views j u). not_true (held_at u k) (λ h. x.0 (busy.alone j u x.1 h ∙ sym here)))
              (at_set s.views id j w u e);
        };
      })
      t.holding

  module _ (slots id k : ℕ) where
    releases_at : (v : View D) (others : List (ℕ × Option B)) (b : B) (more : List (Event D)) (q : ℕ) → k < stripes → Carries v q → held_at v k ≡ true
        → Replays (does k) empty (seen_of v k ++ more) (content b) → beside k (seen_of v k ++ more) b → AreUnder v.numbers more
        → Allows Rule slots id (v, (k, Some b) ∷ others) (word_at k) (λ _. 0) (released does empty more (step slots (word_at k) 0 0 maybe.none) (v, (k, Some b) ∷ others))
    releases_at v others b more q inside c held content_is beside_is under s r _ at small = let home = r.stripe k inside in
        let part = grown (part_of v k) more in let w = put_part v k part in let sets = sets_put v k part (let l = (r.counted id v at).wide q c in omega arith) in
        let homes = set s.homes k (maybe.some (Some b)) in
        let kept : Rule record { words = set s.words (word_at k) 0; homes = homes; views = set s.views id w } = kept_set does empty content beside stripes passes s id v w k 0 part (maybe.some (Some b)) homes r at inside sets
        (release_stripe s id k v w b more r at inside held content_is beside_is under sets) (set_at s.homes k home.0 (maybe.some (Some b)) home.1.0) (λ j other. set_else s.homes k j (maybe.some (Some b)) other) in (
          w,
          gives,
          tt,
          kept,
          λ j e. let same : k ≡ j = omega arith in subst (λ i. Releases does empty more i (v, (k, Some b) ∷ others) (w, others)) same
              record { sets = sets; sound = sound_of does empty content beside stripes passes record { words = set s.words (word_at k) 0; homes = homes; views = set s.views id w } id w q kept (set_at s.views id v w at) c; out = refl },
        )

    pub releases : (me : Me (Option B) (View D)) (others : List (ℕ × Option B)) (b : B) (more : List (Event D)) (q : ℕ) → k < stripes → Carries me.0 q → held_at me.0 k ≡ true → me.1 ≡ (k, Some b) ∷ others
        → Replays (does k) empty (seen_of me.0 k ++ more) (content b) → beside k (seen_of me.0 k ++ more) b → AreUnder me.0.numbers more
        → Allows Rule slots id me (word_at k) (λ _. 0) (released does empty more (step slots (word_at k) 0 0 maybe.none) me)
    releases me others b more q inside c held is content_is beside_is under = subst (λ (x : List (ℕ × Option B)). Allows Rule slots id (me.0, x) (word_at k) (λ _. 0) (released does empty more (step slots (word_at k) 0 0 maybe.none) (me.0, x))) (sym is)
        (releases_at me.0 others b more q inside c held content_is beside_is under)
