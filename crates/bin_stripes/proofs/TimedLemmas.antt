-- Calls at a time, from the seat to the pass, and calls that no refusal of memory meets.
use Rattle.std.proofs.Common.{◌≡◌, ℕ, Bool, true, false, List, [], ◌∷◌, ◌++◌, Option, Some, None, refl, sym, ap, ◌∙◌, subst, inl, inr, append-nil}
use Rattle.atomic_table.specs.Table.{Me}
use Rattle.atomic_table.specs.Seated.{TableId}
use Rattle.stripe_rule.specs.declared.view.View.{View}
use Rattle.stripe_rule.specs.Gains.{Adds, seen_of}
use Rattle.stripe_rule.specs.Steps.{Takes, view_of}
use Rattle.bins.specs.Table.{Table}
use Rattle.atomic_methods.specs.Invocations.{Method, get, put, put_if_absent, remove, remove_if, replace, replace_if, compute, compute_if_absent, compute_if_present, merge, Invocation}
use Rattle.atomic_methods.specs.declared.reply.Reply.{Reply}
use Rattle.atomic_methods.specs.Methods.{WouldAdd, Follows, rule_of}
use Rattle.atomic_methods.proofs.WholeLemmas.{some_of_none}
use Rattle.timed_bins.specs.declared.timing.Timing.{Timing}
use Rattle.timed_bins.specs.declared.timing.TimedReply.{TimedReply}
use Rattle.timed_bins.specs.declared.timing.Expiry.{Expiry}
use Rattle.timed_bins.specs.Deadlines.{TimedTable, asks_room}
use Rattle.bin_stripes.specs.declared.ghost_action.GhostAction.{GhostAction}
use Rattle.bin_stripes.specs.Actions.{Action}
use Rattle.bin_stripes.specs.Histories.{does, empty, own_events, Leaves}
use Rattle.bin_stripes.specs.Saves.{keeps}
use Rattle.bin_stripes.specs.Holding.{Rests, Settles, SeatRefuses}
use Rattle.bin_stripes.specs.Releasing.{Lets}
use Rattle.bin_stripes.specs.Invoked.{Makes, stripe_for}
use Rattle.bin_stripes.specs.Passes.{PassState, stripes_of}
use Rattle.bin_stripes.specs.Timed.{CallsAt, RefusesAt, ExpiresOne, PassCalls, PassIsRefused, plain_of}
use Rattle.bin_stripes.specs.Deeds.{CallsBy, RefusesBy, ExpiresBy, LetsAt, SettlesAt}
use Rattle.bin_stripes.proofs.StepLemmas.{settles_after, settles_as, refuses_after}
use Rattle.bin_stripes.proofs.PassLemmas.{state}

-- what a release lets after a take
abbrev pub settles_at : {B : Type 0} (content : B → Table) (noted : B → List ℕ → Bool) (did : TimedTable → TimedTable → List Action → Type 0) (stripes k : ℕ) (me held me' : Me (Option B) (View GhostAction))
    → Rests me → Takes (does stripes) empty content (keeps content noted) k me held → LetsAt did stripes k held me' → SettlesAt did stripes k me me'
settles_at content noted did stripes k me held me' r t l = record {
  before = l.before;
  after = l.after;
  actions = l.lets.actions;
  did_so = l.lets.may_be;
  settles = settles_after content noted stripes k me held me' l.lets.actions r t l.lets.releases;
  found = subst (λ es. Leaves stripes k es l.before.table) (ap (λ p. p.seen) t.extends.sets.here) l.found;
}

module _ {B : Type 0} (content : B → Table) (noted : B → List ℕ → Bool) (stripes k : ℕ) where
  -- a refused call without a time made nothing
  lets_none : (held me' : Me (Option B) (View GhostAction)) (invocation : Invocation) → LetsAt (RefusesBy None invocation) stripes k held me' → Lets (λ made. made ≡ []) stripes k held me'
  lets_none held me' invocation l = record { actions = l.lets.actions; may_be = l.lets.may_be.1; releases = l.lets.releases }

  pub settles_refused : (me held me' : Me (Option B) (View GhostAction)) (invocation : Invocation) → Rests me → Takes (does stripes) empty content (keeps content noted) k me held
      → LetsAt (RefusesBy None invocation) stripes k held me' → Settles stripes k me [] me'
  settles_refused me held me' invocation r t l = settles_as content noted stripes k me held me' [] r t (lets_none held me' invocation l)

  -- and would have added its key
  pub seat_refused : (held me' : Me (Option B) (View GhostAction)) (invocation : Invocation) → LetsAt (RefusesBy None invocation) stripes k held me' → SeatRefuses stripes k me' invocation
  seat_refused held me' invocation l = refuses_after content noted stripes k held me' invocation (lets_none held me' invocation l)
      record { table = l.before.table; left = l.found; adds = l.lets.may_be.0 }

-- the pass made these actions, after events that leave this table
abbrev pub MakesFrom : PassState → ℕ → List Action → Table → PassState → Type 0
MakesFrom old k actions table new = (makes : Makes old k actions new) × Leaves (stripes_of old.map) k (seen_of old.view k ++ makes.here.between) table

module _ {B : Type 0} (id : TableId) (views : List (View GhostAction)) (me : Me (Option B) (View GhostAction)) (is : views ≡ me.0 ∷ [])
    (k : ℕ) (me' : Me (Option B) (View GhostAction)) (id' : TableId) (views' : List (View GhostAction)) (is' : views' ≡ me'.0 ∷ [])
    (old : PassState) (view_is : state id views ≡ old) where
  -- what the seat made, the pass made
  pub makes_from : (did : TimedTable → TimedTable → List Action → Type 0) (s : SettlesAt did (stripes_of id) k me me') (actions : List Action) (j : ℕ) → s.actions ≡ actions → k ≡ j
      → MakesFrom old j actions s.before.table (state id' views')
  makes_from did s actions j same here = subst (λ (z : PassState × ℕ). MakesFrom z.0 z.1 actions s.before.table (state id' views')) (λ i. (view_is i, here i))
      (subst (λ (z : View GhostAction × View GhostAction × List Action). (makes : Adds z.0 k (own_events z.0 z.2) z.1) × Leaves (stripes_of id) k (seen_of z.0 k ++ makes.here.between) s.before.table)
      (λ i. (sym (ap view_of is) i, sym (ap view_of is') i, same i)) (s.settles.adds, s.found))

  -- a call at a time
  pub calls_at : (timing : Timing) (invocation : Invocation) (timed : TimedReply) (bytes : List ℕ) → SettlesAt (CallsBy (Some timing) invocation timed bytes) (stripes_of id) k me me'
      → k ≡ stripe_for old invocation → CallsAt old timing invocation timed bytes (state id' views')
  calls_at timing invocation timed bytes s here =
      let m = makes_from (CallsBy (Some timing) invocation timed bytes) s _ (stripe_for old invocation) s.did_so.1 here in
      record { before = s.before; after = s.after; calls = s.did_so.0; makes = m.0; found = m.1 }

  -- a refusal at a time
  pub refuses_at : (timing : Timing) (invocation : Invocation) → SettlesAt (RefusesBy (Some timing) invocation) (stripes_of id) k me me'
      → k ≡ stripe_for old invocation → RefusesAt old timing invocation (state id' views')
  refuses_at timing invocation s here =
      let m = makes_from (RefusesBy (Some timing) invocation) s _ (stripe_for old invocation) s.did_so.1 here in
      record { before = s.before; after = s.after; refuses = s.did_so.0; makes = m.0; found = m.1 }

  -- a call, at a time or whatever the time is
  pub pass_calls : (timing : Option Timing) (invocation : Invocation) (timed : TimedReply) (bytes : List ℕ) → SettlesAt (CallsBy timing invocation timed bytes) (stripes_of id) k me me'
      → k ≡ stripe_for old invocation → PassCalls timing old invocation timed bytes (state id' views')
  pass_calls None invocation timed bytes s here = (makes_from (CallsBy None invocation timed bytes) s _ (stripe_for old invocation) s.did_so here).0
  pass_calls (Some timing) invocation timed bytes s here = calls_at timing invocation timed bytes s here

  -- a refusal, at a time or whatever the time is
  pub pass_is_refused : (timing : Option Timing) (invocation : Invocation) → SettlesAt (RefusesBy timing invocation) (stripes_of id) k me me'
      → k ≡ stripe_for old invocation → PassIsRefused timing old invocation (state id' views')
  pass_is_refused None invocation s here = let m = makes_from (RefusesBy None invocation) s [] (stripe_for old invocation) s.did_so.1 here in record {
    nothing = m.0;
    table = s.before.table;
    left = subst (λ es. Leaves (stripes_of old.map) (stripe_for old invocation) es s.before.table) (sym (m.0.here.seen ∙ append-nil (seen_of old.view (stripe_for old invocation) ++ m.0.here.between))) m.1;
    adds = s.did_so.0;
  }
  pass_is_refused (Some timing) invocation s here = refuses_at timing invocation s here

  -- a look for an entry whose time is over
  pub expires_one : (now : ℕ) (expiry : Expiry) → SettlesAt (ExpiresBy now expiry) (stripes_of id) k me me' → ExpiresOne old k now (plain_of expiry) (state id' views')
  expires_one now expiry s =
      let m = makes_from (ExpiresBy now expiry) s _ k s.did_so.1 refl in
      record { expiry = expiry; answer_is = refl; before = s.before; after = s.after; expires = s.did_so.0; makes = m.0; found = m.1 }

-- a method that never adds its key
abbrev pub adds_no_key : Method → Bool
adds_no_key get = true
adds_no_key (put value) = false
adds_no_key (put_if_absent value) = false
adds_no_key remove = true
adds_no_key (remove_if expected) = true
adds_no_key (replace value) = true
adds_no_key (replace_if expected value) = true
adds_no_key (compute program arg) = false
adds_no_key (compute_if_absent program arg) = false
adds_no_key (compute_if_present program arg) = true
adds_no_key (merge value program) = false

-- such a method leaves an absent key without a value
leaves_none : (method : Method) (key value : List ℕ) (reply : Reply) → adds_no_key method ≡ true → Follows (rule_of method None) key None (Some value) reply → ⊥
leaves_none get key value reply none follows = some_of_none None value refl (sym follows.0)
leaves_none (put v) key value reply none follows = cc
leaves_none (put_if_absent v) key value reply none follows = cc
leaves_none remove key value reply none follows = some_of_none None value refl (sym follows.0)
leaves_none (remove_if v) key value reply none follows = some_of_none None value refl (sym follows.0)
leaves_none (replace v) key value reply none follows = some_of_none None value refl (sym follows.0)
leaves_none (replace_if x v) key value reply none follows = some_of_none None value refl (sym follows.0)
leaves_none (compute p a) key value reply none follows = cc
leaves_none (compute_if_absent p a) key value reply none follows = cc
leaves_none (compute_if_present p a) key value reply none follows = some_of_none None value refl (sym follows.0)
leaves_none (merge v p) key value reply none follows = cc

would_not_add : (table : Table) (invocation : Invocation) → adds_no_key invocation.method ≡ true → WouldAdd table invocation → ⊥
would_not_add table invocation none adds = let (absent, (value, (reply, follows))) = adds in
    leaves_none invocation.method invocation.key value reply none
    (subst (λ old. Follows (rule_of invocation.method old) invocation.key old (Some value) reply) absent follows)

-- a call that never adds its key, and whose change needs no room, is never refused
pub never_refused : (old new : PassState) (timing : Timing) (invocation : Invocation) → adds_no_key invocation.method ≡ true → asks_room timing.change ≡ false
    → RefusesAt old timing invocation new → ⊥
never_refused old new timing invocation none no_room r = elim r.refuses.memory [
  | inl adds ↦ would_not_add r.before.table invocation none adds
  | inr room ↦ cc
]
