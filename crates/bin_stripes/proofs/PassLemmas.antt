-- A pass and its seat: a step of the seat is a step of the pass.
use Rattle.std.proofs.Common.{◌≡◌, ℕ, suc, List, [], ◌∷◌, ◌++◌, Option, Result, Ok, Err, length, refl, sym, ap, ◌∙◌, subst}
use Rattle.std.specs.Prelude.{OnErr, IfOk}
use Rattle.atomic_table.specs.Table.{Me}
use Rattle.atomic_table.specs.Seated.{TableId}
use Rattle.stripe_rule.specs.declared.view.View.{View}
use Rattle.stripe_rule.specs.declared.view.Part.{Part}
use Rattle.stripe_rule.specs.Gains.{least, Carries, IsIdle, Adds, seen_of, held_at}
use Rattle.stripe_rule.specs.Steps.{view_of, united, united_parts}
use Rattle.stripe_rule.proofs.HistoryLemmas.{has-left}
use Rattle.stripe_rule.proofs.CallLemmas.{least_has}
use Rattle.stripe_rule.proofs.JoinLemmas.{part_united}
use Rattle.verifier.specs.Checked.{Checked}
use Rattle.bins.specs.declared.counts.Counts.{Counts}
use Rattle.atomic_methods.specs.Invocations.{Invocation}
use Rattle.bin_stripes.specs.declared.ghost_action.GhostAction.{GhostAction}
use Rattle.bin_stripes.specs.Actions.{Action}
use Rattle.bin_stripes.specs.Histories.{own_events, Leaves}
use Rattle.bin_stripes.specs.Holding.{Rests, Settles, SeatRefuses, SeatReplaces}
use Rattle.bin_stripes.specs.Passes.{PassState, IsPass, ServesSameMap, stripes_of}
use Rattle.bin_stripes.specs.Invoked.{Makes, RefusesCall, ReplacesInStripe, stripe_for}

-- what contracts see of a pass
abbrev pub state : TableId → List (View GhostAction) → PassState
state id views = record { map = id; view = view_of views }

module _ {B : Type 0} (id : TableId) (views : List (View GhostAction)) (me : Me (Option B) (View GhostAction)) (pass : IsPass id views) (is : views ≡ me.0 ∷ []) where
  -- the seat of a pass rests
  pub rests_of : me.1 ≡ [] → Rests me
  rests_of out = let e : view_of views ≡ me.0 = ap view_of is in record {
    idle = subst (λ (v : View GhostAction). IsIdle v) e pass.idle;
    some = subst (λ (v : View GhostAction). Carries v (least v.numbers)) e pass.some;
    none_out = out;
  }

  module _ (k : ℕ) (actions : List Action) (me' : Me (Option B) (View GhostAction)) (s : Settles (stripes_of id) k me actions me') (id' : TableId) (views' : List (View GhostAction)) (same : id' ≡ id) (is' : views' ≡ me'.0 ∷ []) where
    before : view_of views ≡ me.0
    before = ap view_of is

    after : view_of views' ≡ me'.0
    after = ap view_of is'

    -- it is a pass when the seat rests again
    pub pass_after : IsPass id' views'
    pass_after = subst (λ z. IsPass z views') (sym same) (subst (λ vs. IsPass id vs) (sym is') (record {
      one = refl;
      idle = s.rests.idle;
      some = s.rests.some;
      sound = s.sound;
      wide = s.wide ∙ (ap (λ (v : View GhostAction). length v.parts) (sym before) ∙ pass.wide);
    }))

    pub serves_after : (old : PassState) → state id views ≡ old → ServesSameMap old (state id' views')
    serves_after old view_is = subst (λ o. ServesSameMap o (state id' views')) view_is (record {
      map = same;
      passes = ap (λ (v : View GhostAction). v.passes) after ∙ (s.passes ∙ ap (λ (v : View GhostAction). v.passes) (sym before));
    })

    pub makes_after : (old : PassState) → state id views ≡ old → Makes old k actions (state id' views')
    makes_after old view_is = subst (λ o. Makes o k actions (state id' views')) view_is
        (subst (λ (z : View GhostAction × View GhostAction). Adds z.0 k (own_events z.0 actions) z.1) (λ i. (sym before i, sym after i)) s.adds)

  -- what was refused
  pub refused_after : (me' : Me (Option B) (View GhostAction)) (k : ℕ) (invocation : Invocation) (s : Settles (stripes_of id) k me [] me') (id' : TableId) (views' : List (View GhostAction)) → id' ≡ id → views' ≡ me'.0 ∷ []
      → SeatRefuses (stripes_of id) k me' invocation → (old : PassState) → state id views ≡ old → k ≡ stripe_for old invocation → RefusesCall old invocation (state id' views')
  refused_after me' k invocation s id' views' same is' r old view_is here = record {
    nothing = subst (λ j. Makes old j [] (state id' views')) here (makes_after k [] me' s id' views' same is' old view_is);
    table = r.table;
    left = subst (λ (z : ℕ × PassState × View GhostAction). Leaves (stripes_of z.1.map) z.0 (seen_of z.2 z.0) r.table) (λ i. (here i, view_is i, sym (ap view_of is') i)) r.left;
    adds = r.adds;
  }

  -- what was replaced
  pub replaced_after : (me' : Me (Option B) (View GhostAction)) (k : ℕ) (program : Checked) (arg : Option (List ℕ)) (counts : Counts) (r : SeatReplaces (stripes_of id) k me program arg counts me') (id' : TableId) (views' : List (View GhostAction)) → id' ≡ id → views' ≡ me'.0 ∷ []
      → (old : PassState) → state id views ≡ old → ReplacesInStripe old k program arg counts (state id' views')
  replaced_after me' k program arg counts r id' views' same is' old view_is = subst (λ o. ReplacesInStripe o k program arg counts (state id' views')) view_is
      (subst (λ (z : View GhostAction × View GhostAction). ReplacesInStripe (record { map = id; view = z.0 }) k program arg counts (record { map = id'; view = z.1 })) (λ i. (sym (ap view_of is) i, sym (ap view_of is') i))
      (record { actions = r.actions; makes = r.settles.adds; table = r.table; found = r.found; are = r.are }))

-- a fact about the error, or about the value, can be carried on
pub on_err_so : {X E P Q : Type 0} (r : Result X E) → (P → Q) → OnErr r P → OnErr r Q
on_err_so (Ok x) f p = tt
on_err_so (Err e) f p = f p

pub on_err_of : {X E P : Type 0} (r : Result X E) → P → OnErr r P
on_err_of (Ok x) p = tt
on_err_of (Err e) p = p

pub if_ok_so : {X E : Type 0} (P Q : X → Type 0) (r : Result X E) → ((x : X) → P x → Q x) → IfOk r P → IfOk r Q
if_ok_so P Q (Ok x) f p = f x p
if_ok_so P Q (Err e) f p = tt

-- a fact about the error, if there is one
pub of_error : {X E P : Type 0} (r : Result X E) (e : E) → r ≡ Err e → OnErr r P → P
of_error {X} {E} {P} r e is p = subst (λ (x : Result X E). OnErr x P) is p

-- two at rest, joined
pub joined_rests : {B : Type 0} (me other me' : Me (Option B) (View GhostAction)) → Rests me → Rests other → length me.0.parts ≡ length other.0.parts → me' ≡ (united me.0 other.0, me.1) → Rests me'
joined_rests me other me' r s wide is = record {
  idle = λ k. ap (λ m. held_at m.0 k) is ∙ (ap (λ (p : Part GhostAction). p.held) (part_united me.0 other.0 k wide) ∙ r.idle k);
  some = subst (λ (v : View GhostAction). Carries v (least v.numbers)) (sym (ap (λ m. m.0) is))
      (least_has (least me.0.numbers) (me.0.numbers ++ other.0.numbers) (has-left (least me.0.numbers) me.0.numbers other.0.numbers r.some));
  none_out = ap (λ m. m.1) is ∙ r.none_out;
}

length_united : (ps qs : List (Part GhostAction)) → length (united_parts ps qs) ≡ length ps
length_united [] qs = refl
length_united (p ∷ ps) [] = refl
length_united (p ∷ ps) (q ∷ qs) = ap suc (length_united ps qs)

pub wide_united : (v w u : View GhostAction) → u ≡ united v w → length u.parts ≡ length v.parts
wide_united v w u is = ap (λ (x : View GhostAction). length x.parts) is ∙ length_united v.parts w.parts
