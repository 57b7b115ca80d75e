-- One view changes: what its stripe needs for that, and that the other stripes stay.
use Rattle.std.proofs.Common.{◌≡◌, ◌≢◌, ◌⊎◌, ℕ, suc, ◌+◌, ◌<◌, Bool, true, false, List, [], ◌++◌, get_or, set, Option, refl, sym, ap, ◌∙◌, subst, inl, inr, ⊎_elim, arith, append-nil, length-set, get_or-set_same, get_or-set_other}
use Rattle.std.proofs.lemmas.List.Elements.{All-nil}
use mathlib.Core.Logic.{dite}
use mathlib.Core.Option as maybe
use native.Mathlib.Decide.{ℕ_discrete, dec_le}
use lib.ListN.{get_elem?}
use Rattle.atomic_table.specs.Table.{State}
use Rattle.atomic_table.proofs.Lists.{at_set, set_else}
use Rattle.stripe_rule.specs.declared.view.Event.{Event}
use Rattle.stripe_rule.specs.declared.view.Part.{Part}
use Rattle.stripe_rule.specs.declared.view.View.{View}
use Rattle.stripe_rule.specs.History.{has, made_by, AreUnder, AreOthers, AreBelow, IsLegal}
use Rattle.stripe_rule.specs.Gains.{blank, part_of, seen_of, mine_of, held_at, Carries, IsSound}
use Rattle.stripe_rule.specs.Words.{word_at}
use Rattle.stripe_rule.specs.Rule.{Home, At, IsCounted, FitsLog, IsFree, IsHeld, Stripe, Kept}
use Rattle.stripe_rule.specs.Steps.{SetsPart, lengthened}
use Rattle.stripe_rule.proofs.HistoryLemmas.{IsBelow, All-front, legal_front, made_by-others}
use Rattle.stripe_rule.proofs.ViewLemmas.{set_at, get_or-beyond, every_set, same_view, apart_set, counted_same}

module _ {D : Type 0} where
  -- a view with the same numbers and the same part still fits
  pub fits_same : (k : ℕ) (log : List (Event D)) (v w : View D) → w.numbers ≡ v.numbers → part_of w k ≡ part_of v k → FitsLog k log v → FitsLog k log w
  fits_same k log v w numbers part f = record {
    rest = f.rest;
    begins = f.begins ∙ ap (λ (p : Part D). p.seen ++ f.rest) (sym part);
    others = subst (λ ns. AreOthers ns f.rest) (sym numbers) f.others;
    own = λ q c. ap (λ (p : Part D). made_by q p.seen) part ∙ (f.own q (ap (has q) (sym numbers) ∙ c) ∙ ap (λ (p : Part D). made_by q p.mine) (sym part));
    under = subst (λ (z : List ℕ × Part D). AreUnder z.0 z.1.mine) (λ i. (sym numbers i, sym part i)) f.under;
    heard = (f.heard.0, f.heard.1 ∙ ap (λ (p : Part D). p.told ++ f.heard.0) (sym part));
  }

  -- a view that has seen the rest of the list fits
  pub fits_seen : (k : ℕ) (log : List (Event D)) (v w : View D) (held : Bool) (f : FitsLog k log v) → SetsPart v k (lengthened (part_of v k) f.rest held) w → FitsLog k log w
  fits_seen k log v w held f sets = let seen : seen_of w k ≡ log = ap (λ (p : Part D). p.seen) sets.here ∙ sym f.begins in record {
    rest = [];
    begins = sym (append-nil log) ∙ ap (λ (l : List (Event D)). l ++ []) (sym seen);
    others = All-nil (λ (e : Event D). has e.by w.numbers ≡ false);
    own = λ q c. let c' : Carries v q = ap (has q) (sym sets.numbers) ∙ c in ap (λ (p : Part D). made_by q p.seen) sets.here
        ∙ (made_by-others v.numbers q (seen_of v k) f.rest c' f.others ∙ (f.own q c' ∙ ap (λ (p : Part D). made_by q p.mine) (sym sets.here)));
    under = subst (λ (z : List ℕ × Part D). AreUnder z.0 z.1.mine) (λ i. (sym sets.numbers i, sym sets.here i)) f.under;
    heard = (f.heard.0, f.heard.1 ∙ ap (λ (p : Part D). p.told ++ f.heard.0) (sym sets.here));
  }

module _ {D T B : Type 0} (does : ℕ → T → D → T → Type 0) (empty : T) (content : B → T) (beside : ℕ → List (Event D) → B → Type 0) where
  abbrev pub Place : ℕ → List (Event D) → ℕ → Home B → List (View D) → Type 0
  Place k log word home views = IsFree does empty content beside k log word home views ⊎ IsHeld does empty content beside k log word home views

  -- one view changes, holds the stripe as before, and has seen everything if it holds it
  pub holding_set : (k : ℕ) (log : List (Event D)) (word : ℕ) (home : Home B) (views : List (View D)) (id : ℕ) (v w : View D) → At views id v → held_at w k ≡ held_at v k
      → (seen_of v k ≡ log → seen_of w k ≡ log) → Place k log word home views → Place k log word home (set views id w)
  holding_set k log word home views id v w at held seen (inl f) = inl record {
    word_is = f.word_is;
    bins = f.bins;
    home_is = f.home_is;
    content_is = f.content_is;
    beside_is = f.beside_is;
    nobody = every_set (λ u. held_at u k ≡ false) views id w (held ∙ f.nobody id v at) f.nobody;
  }
  holding_set k log word home views id v w at held seen (inr b) = inr (dite (ℕ_discrete b.who id)
      (λ same. let is : b.view ≡ v = same_view views id b.view v (subst (λ i. At views i b.view) same b.at) at in record {
        word_is = b.word_is;
        home_is = b.home_is;
        who = b.who;
        view = w;
        at = subst (λ i. At (set views id w) i w) (sym same) (set_at views id v w at);
        held = held ∙ (ap (λ (z : View D). held_at z k) (sym is) ∙ b.held);
        whole = seen (ap (λ (z : View D). seen_of z k) (sym is) ∙ b.whole);
        alone = alone;
      })
      (λ other. record {
        word_is = b.word_is;
        home_is = b.home_is;
        who = b.who;
        view = b.view;
        at = set_else views id b.who w other ∙ b.at;
        held = b.held;
        whole = b.whole;
        alone = alone;
      }))
    where
      alone : (j : ℕ) (u : View D) → At (set views id w) j u → held_at u k ≡ true → j ≡ b.who
      alone j u e h = ⊎_elim
          (λ (t : (j ≡ id) × (w ≡ u)). t.0 ∙ b.alone id v at (sym held ∙ (ap (λ (z : View D). held_at z k) t.1 ∙ h)))
          (λ (t : (j ≢ id) × At views j u). b.alone j u t.1 h)
          (at_set views id j w u e)

  -- the stripe at which one view changes and fits
  pub stripe_set : (passes k word : ℕ) (home : Home B) (views : List (View D)) (id : ℕ) (v w : View D) (r : Stripe does empty content beside passes k word home views) → At views id v
      → FitsLog k r.log w → held_at w k ≡ held_at v k → (seen_of v k ≡ r.log → seen_of w k ≡ r.log) → Stripe does empty content beside passes k word home (set views id w)
  stripe_set passes k word home views id v w r at fits held seen = record {
    log = r.log;
    legal = r.legal;
    below = r.below;
    fits = every_set (FitsLog k r.log) views id w fits r.fits;
    holding = holding_set k r.log word home views id v w at held seen r.holding;
  }

  -- a stripe about which the view learns nothing new
  pub stripe_else : (passes k word : ℕ) (home : Home B) (views : List (View D)) (id : ℕ) (v w : View D) → Stripe does empty content beside passes k word home views → At views id v
      → w.numbers ≡ v.numbers → part_of w k ≡ part_of v k → Stripe does empty content beside passes k word home (set views id w)
  stripe_else passes k word home views id v w r at numbers part = stripe_set passes k word home views id v w r at (fits_same k r.log v w numbers part (r.fits id v at))
      (ap (λ (p : Part D). p.held) part) (λ e. ap (λ (p : Part D). p.seen) part ∙ e)

  -- the rule is kept if one view changes only at the stripe k, and the stripe keeps its part of the rule
  pub kept_set : (stripes passes : ℕ) (s : State (Option B) (View D)) (id : ℕ) (v w : View D) (k word : ℕ) (part : Part D) (home : Home B) (homes : List (Home B))
      → Kept does empty content beside stripes passes s → At s.views id v → k < stripes → SetsPart v k part w → Stripe does empty content beside passes k word home (set s.views id w)
      → get_elem? homes k ≡ maybe.some home → ((j : ℕ) → j ≢ k → get_elem? homes j ≡ get_elem? s.homes j)
      → Kept does empty content beside stripes passes record { words = set s.words (word_at k) word; homes = homes; views = set s.views id w }
  kept_set stripes passes s id v w k word part home homes r at inside sets stripe here else = record {
    words = length-set s.words (word_at k) word ∙ r.words;
    between = λ j i l low high. get_or-set_other s.words (word_at k) (word_at j + i) word 0 (λ e. omega (arith, e, low, high)) ∙ r.between j i l low high;
    apart = apart_set s.views id v w at sets.numbers r.apart;
    counted = every_set (IsCounted stripes passes) s.views id w (counted_same stripes passes v w sets.numbers sets.passes sets.wide (r.counted id v at)) r.counted;
    stripe = λ j l. dite (ℕ_discrete j k)
        (λ is. subst (λ (m : ℕ). (h : Home B) × ((get_elem? homes m ≡ maybe.some h) × Stripe does empty content beside passes m (get_or (set s.words (word_at k) word) (word_at m) 0) h (set s.views id w))) (sym is)
        (home, (here, subst (λ n. Stripe does empty content beside passes k n home (set s.views id w)) (sym (get_or-set_same s.words (word_at k) word 0 (let n = r.words in omega arith))) stripe)))
        (λ other. let old = r.stripe j l in (
          old.0,
          (
            else j other ∙ old.1.0,
            subst (λ n. Stripe does empty content beside passes j n old.0 (set s.views id w)) (sym (get_or-set_other s.words (word_at k) (word_at j) word 0 (λ e. other (omega arith))))
                (stripe_else passes j (get_or s.words (word_at j) 0) old.0 s.views id v w old.1.1 at sets.numbers (sets.elsewhere j other)),
          ),
        ));
  }

  abbrev SoundAt : View D → ℕ → Type 0
  SoundAt v k = IsLegal (does k) empty (seen_of v k) × (AreBelow v.passes (seen_of v k) × (AreUnder v.numbers (mine_of v k) × ((q : ℕ) → Carries v q → made_by q (seen_of v k) ≡ made_by q (mine_of v k))))

  sound_at : (passes k : ℕ) (log : List (Event D)) (v : View D) → v.passes ≡ passes → IsLegal (does k) empty log → AreBelow passes log → FitsLog k log v → SoundAt v k
  sound_at passes k log v count legal below f = (
    legal_front (does k) empty (seen_of v k) f.rest (subst (IsLegal (does k) empty) f.begins legal),
    (
      subst (λ n. AreBelow n (seen_of v k)) (sym count) (All-front (IsBelow passes) (seen_of v k) f.rest (subst (AreBelow passes) f.begins below)),
      (f.under, f.own),
    ),
  )

  sound_blank : (v : View D) (k : ℕ) → part_of v k ≡ blank → SoundAt v k
  sound_blank v k is = subst (λ (p : Part D). IsLegal (does k) empty p.seen × (AreBelow v.passes p.seen × (AreUnder v.numbers p.mine × ((q : ℕ) → Carries v q → made_by q p.seen ≡ made_by q p.mine)))) (sym is)
      ((empty, refl), (All-nil (λ (e : Event D). e.by < v.passes), (All-nil (λ (e : Event D). has e.by v.numbers ≡ true), λ q c. refl)))

  -- by the rule a view that carries a number is sound
  pub sound_of : (stripes passes : ℕ) (s : State (Option B) (View D)) (id : ℕ) (v : View D) (q : ℕ) → Kept does empty content beside stripes passes s → At s.views id v → Carries v q → IsSound does empty v
  sound_of stripes passes s id v q r at c = record { legal = λ k. (all k).0; below = λ k. (all k).1.0; under = λ k. (all k).1.1.0; own = λ k. (all k).1.1.1 }
    where
      all : (k : ℕ) → SoundAt v k
      all k = dite (dec_le (suc k) stripes)
          (λ inside. let t = (r.stripe k inside).1.1 in sound_at passes k t.log v ((r.counted id v at).count q c) t.legal t.below (t.fits id v at))
          (λ beyond. sound_blank v k (get_or-beyond v.parts k blank (let n = (r.counted id v at).wide q c in omega arith)))
