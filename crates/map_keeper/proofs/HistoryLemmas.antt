-- What a pass handed out is what was handed out, if no other saves.
use Rattle.std.proofs.Common.{◌≡◌, ◌∙◌, ℕ, suc, ◌<◌, ◌||◌, eqb, Bool, true, false, cond, List, [], ◌∷◌, refl, sym, ap, subst, inl, inr, arith}
use Rattle.std.specs.FinMap as finite
use Rattle.std.proofs.lemmas.Bool.Decides.{nat_tests}
use Rattle.sqlite.specs.State.{State}
use Rattle.bins.specs.Table.{Table}
use Rattle.stripe_rule.specs.declared.view.Event.{Event}
use Rattle.stripe_rule.specs.declared.view.View.{View}
use Rattle.stripe_rule.specs.Gains.{mine_of, seen_of}
use Rattle.stripe_rule.specs.History.{has, made_by, AreUnder}
use Rattle.bin_stripes.specs.declared.ghost_action.GhostAction.{GhostAction}
use Rattle.bin_stripes.specs.Actions.{Action, called, scanned, replaced, saved}
use Rattle.bin_stripes.specs.Histories.{Sound}
use Rattle.bin_stripes.specs.Passes.{PassState, stripes_of}
use Rattle.bin_stripes.specs.Saves.{kept_after, kept_from, kept_in}
use Rattle.map_keeper.specs.Kept.{IsInStep, OnlySaves, HasContent}
use Rattle.map_keeper.specs.Saves.{IsSave, IsWhole}
use Rattle.map_keeper.specs.Stripes.{HasStripe}

-- ---- only this pass saves

no_save : (table : Table) (event : Event GhostAction) → ¬ IsSave event → kept_after table event.action.action ≡ table
no_save table event none = by_action event.action.action refl
  where
    by_action : (action : Action) → event.action.action ≡ action → kept_after table action ≡ table
    by_action (called invocation reply) is = refl
    by_action (scanned entries) is = refl
    by_action (replaced key program arg outcome) is = refl
    by_action (saved taken rows) is = absurd (none (taken, rows, is))

-- what else happened adds nothing to what was handed out
by_others : (q : ℕ) (table : Table) (events : List (Event GhostAction)) → OnlySaves q events → kept_from table events ≡ kept_from table (made_by q events)
by_others q table [] only = refl
by_others q table (event ∷ events) only = by_test (λ t. by_others q t events rest) (eqb q event.by) refl
  where
    rest : OnlySaves q events
    rest i d low = only (suc i) d (omega (arith, low))

    by_test : ((t : Table) → kept_from t events ≡ kept_from t (made_by q events)) → (b : Bool) → eqb q event.by ≡ b
        → kept_from table (event ∷ events) ≡ kept_from table (cond b (event ∷ made_by q events) (made_by q events))
    by_test more true is = more (kept_after table event.action.action)
    by_test more false is =
        let none : ¬ IsSave event = elim (only 0 event (omega arith)) [ inl own ↦ absurd (let e = sym own ∙ is in cc) | inr other ↦ other ] in
        ap (λ t. kept_from t events) (no_save table event none) ∙ more table

-- all are made with the number
all_by : (q : ℕ) (events : List (Event GhostAction)) → AreUnder (q ∷ []) events → made_by q events ≡ events
all_by q [] under = refl
all_by q (event ∷ events) under = by_test (all_by q events rest) (eqb q event.by) refl
  where
    rest : AreUnder (q ∷ []) events
    rest i d low = under (suc i) d (omega (arith, low))

    by_test : made_by q events ≡ events → (b : Bool) → eqb q event.by ≡ b → cond b (event ∷ made_by q events) (made_by q events) ≡ event ∷ events
    by_test more true is = ap (λ (l : List (Event GhostAction)). event ∷ l) more
    by_test more false is = absurd (let own : (eqb event.by q || false) ≡ true = under 0 event (omega arith) in grind (arith, nat_tests))

pub same_kept : (stripes q k : ℕ) (view : View GhostAction) → Sound stripes view → view.numbers ≡ q ∷ [] → OnlySaves q (seen_of view k) → kept_in (seen_of view k) ≡ kept_in (mine_of view k)
same_kept stripes q k view sound one only =
    let carries : has q view.numbers ≡ true = subst (λ (l : List ℕ). has q l ≡ true) (sym one) (let e : (eqb q q || false) ≡ true = grind (arith, nat_tests) in e) in
    let under : AreUnder (q ∷ []) (mine_of view k) = subst (λ (l : List ℕ). AreUnder l (mine_of view k)) one (sound.under k) in
    by_others q finite.empty (seen_of view k) only ∙ (ap kept_in (sound.own k q carries) ∙ ap kept_in (all_by q (mine_of view k) under))

-- a file that is in step has the content after the events that were seen
pub has_content : (pass : PassState) (file : State) (q k : ℕ) → Sound (stripes_of pass.map) pass.view → pass.view.numbers ≡ q ∷ [] → OnlySaves q (seen_of pass.view k)
    → IsWhole pass k → HasStripe file k (kept_in (mine_of pass.view k)) → HasContent file pass k
has_content pass file q k sound one only whole had = record {
  table = kept_in (seen_of pass.view k);
  left = whole;
  had = subst (HasStripe file k) (sym (same_kept (stripes_of pass.map) q k pass.view sound one only)) had;
}

pub content_of : (pass : PassState) (file : State) (n q k : ℕ) → Sound (stripes_of pass.map) pass.view → pass.view.numbers ≡ q ∷ [] → OnlySaves q (seen_of pass.view k)
    → IsWhole pass k → k < n → IsInStep false pass.view n file → HasContent file pass k
content_of pass file n q k sound one only whole low step = elim (step.stripes k low) [
  | inl none ↦ absurd (let e : false ≡ true = none in cc)
  | inr had ↦ has_content pass file q k sound one only whole had
]
