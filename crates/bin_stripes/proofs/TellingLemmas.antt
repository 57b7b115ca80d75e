-- A pass at rest is told something, and looks.
use Rattle.std.proofs.Common.{◌≡◌, ℕ, Bool, List, [], ◌∷◌, ◌++◌, Option, refl, sym, ap, ◌∙◌, subst}
use Rattle.known_seat.specs.Knowing.{Learns}
use Rattle.atomic_table.specs.Table.{Me}
use Rattle.stripe_rule.specs.declared.view.Part.{Part}
use Rattle.stripe_rule.specs.declared.view.View.{View}
use Rattle.stripe_rule.specs.History.{has, made_by, AreUnder, AreOthers, AreBelow, IsLegal}
use Rattle.stripe_rule.specs.Gains.{least, seen_of, Carries}
use Rattle.stripe_rule.specs.Rule.{Kept}
use Rattle.stripe_rule.specs.Steps.{IsTold, HasHeard, Looks, told_part, view_of}
use Rattle.stripe_rule.proofs.CallLemmas.{least_has, carries_same}
use Rattle.stripe_rule.proofs.TellLemmas.{told_by, heard_none}
use Rattle.bins.specs.Table.{Table}
use Rattle.bin_stripes.specs.declared.ghost_action.GhostAction.{GhostAction}
use Rattle.bin_stripes.specs.declared.rule.Shape.{Shape}
use Rattle.bin_stripes.specs.Histories.{empty, does, Sound}
use Rattle.bin_stripes.specs.Saves.{keeps}
use Rattle.bin_stripes.specs.Holding.{Rests}
use Rattle.bin_stripes.proofs.StepLemmas.{settles_lost}

-- a pass is told what another at rest has seen
pub learns_of : {B : Type 0} (content : B → Table) (noted : B → List ℕ → Bool) (shape : Shape) (id : ℕ) (v : View GhostAction) (other : ℕ) (from : View GhostAction) → Carries v (least v.numbers) → Carries from (least from.numbers)
    → Learns (Kept (does shape.stripes) empty content (keeps content noted) shape.stripes shape.passes) id v other from (λ u. IsTold from v u)
learns_of content noted shape id v other from c c' s kept at there =
    let t = told_by (does shape.stripes) empty content (keeps content noted) shape.stripes shape.passes id v other from (least v.numbers) (least from.numbers) c c' s kept at there in
    (t.0, t.1.0, t.1.1)

-- being told something is not yet news of any stripe
pub told_sound : (n : ℕ) (from v u : View GhostAction) → IsTold from v u → Sound n v → Sound n u
told_sound n from v u t s = record {
  legal = λ k. subst (λ (p : Part GhostAction). IsLegal (does n k) empty p.seen) (sym (t.parts k)) (s.legal k);
  below = λ k. subst (λ (x : ℕ × Part GhostAction). AreBelow x.0 x.1.seen) (λ i. (sym t.passes i, sym (t.parts k) i)) (s.below k);
  under = λ k. subst (λ (x : List ℕ × Part GhostAction). AreUnder x.0 x.1.mine) (λ i. (sym t.numbers i, sym (t.parts k) i)) (s.under k);
  own = λ k q c. ap (λ (p : Part GhostAction). made_by q p.seen) (t.parts k) ∙ (s.own k q (ap (has q) (sym t.numbers) ∙ c) ∙ ap (λ (p : Part GhostAction). made_by q p.mine) (sym (t.parts k)));
}

-- after it has heard, it rests as before
pub rests_heard : {B : Type 0} (from : View GhostAction) (n : ℕ) (me me' : Me (Option B) (View GhostAction)) → Rests me → HasHeard from me.0 n me'.0 → me'.1 ≡ [] → Rests me'
rests_heard from n me me' r h out = record {
  idle = λ k. h.held k ∙ r.idle k;
  some = least_has (least me.0.numbers) me'.0.numbers (carries_same me.0 me'.0 (least me.0.numbers) h.numbers r.some);
  none_out = out;
}

-- after it was told, it is told the same again
pub told_again : (from v u : View GhostAction) → IsTold from v u → IsTold from u u
told_again from v u t = record {
  numbers = refl;
  passes = refl;
  wide = refl;
  parts = λ k. t.parts k ∙ ap (λ (p : Part GhostAction). told_part p (seen_of from k)) (sym (t.parts k));
}

-- what it has heard since it was told
pub heard_since : (from v u w : View GhostAction) (n : ℕ) → IsTold from v u → HasHeard from u n w → HasHeard from v n w
heard_since from v u w n t h = record {
  numbers = h.numbers ∙ t.numbers;
  passes = h.passes ∙ t.passes;
  wide = h.wide ∙ t.wide;
  held = λ k. h.held k ∙ ap (λ (p : Part GhostAction). p.held) (t.parts k);
  told = h.told;
  gains = λ k. let g = h.gains k in record {
    between = g.between;
    others = subst (λ ns. AreOthers ns g.between) t.numbers g.others;
    seen = g.seen ∙ ap (λ (p : Part GhostAction). (p.seen ++ g.between) ++ []) (t.parts k);
    mine = g.mine ∙ ap (λ (p : Part GhostAction). p.mine ++ []) (t.parts k);
  };
  begins = h.begins;
}

-- the other's view, as the lesson has it
pub told_is : (from v u w : View GhostAction) (views : List (View GhostAction)) → views ≡ w ∷ [] → view_of views ≡ from → IsTold w v u → IsTold from v u
told_is from v u w views is e t = subst (λ x. IsTold x v u) (sym (ap view_of is) ∙ e) t

-- after it was told, it rests as before
pub told_rests : {B : Type 0} (from : View GhostAction) (me me' : Me (Option B) (View GhostAction)) → Rests me → IsTold from me.0 me'.0 → me'.1 ≡ [] → Rests me'
told_rests from me me' r t out = rests_heard from 0 me me' r (heard_none from me.0 me'.0 t) out

-- after it looked, it rests as before
pub told_looks : {B : Type 0} (n : ℕ) (content : B → Table) (noted : B → List ℕ → Bool) (k : ℕ) (me me' : Me (Option B) (View GhostAction)) → Rests me → Looks (does n) empty k me me' → Rests me'
told_looks n content noted k me me' r l = (settles_lost content noted n k me me' r l).rests
