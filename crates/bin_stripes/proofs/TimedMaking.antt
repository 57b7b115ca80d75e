-- Actions at a time on the bins of a stripe, as events after those that were seen.
use Rattle.std.proofs.Common.{◌≡◌, ℕ, Bool, true, false, IsTrue, if◌then◌else◌, List, [], ◌∷◌, ◌++◌, Option, Some, None, refl, sym, ap, ◌∙◌, subst}
use Rattle.std.specs.FinMap as finmap
use Rattle.stripe_rule.specs.declared.view.View.{View}
use Rattle.stripe_rule.specs.History.{Replays}
use Rattle.stripe_rule.specs.Gains.{seen_of}
use Rattle.stripe_rule.proofs.HistoryLemmas.{Replays-append}
use Rattle.bins.specs.Table.{Table}
use Rattle.atomic_methods.specs.declared.reply.Reply.TheVariants.{Value}
use Rattle.atomic_methods.specs.Hashes.{stripe_of}
use Rattle.atomic_methods.specs.Invocations.{Invocation, on_key, remove}
use Rattle.atomic_methods.specs.Plans.{reply_by}
use Rattle.timed_bins.specs.declared.timing.Timing.{Timing}
use Rattle.timed_bins.specs.declared.timing.TimedReply.{TimedReply}
use Rattle.timed_bins.specs.declared.timing.Expiry.{Expiry}
use Rattle.timed_bins.specs.declared.timing.Expiry.TheVariants.{Took, Waits, Nothing}
use Rattle.timed_bins.specs.Deadlines.{TimedTable, MakesCall, RefusesCall, Expires}
use Rattle.bin_stripes.specs.declared.ghost_action.GhostAction.{GhostAction}
use Rattle.bin_stripes.specs.Actions.{Action, called, Does}
use Rattle.bin_stripes.specs.Histories.{does, empty, own_events, Leaves}
use Rattle.bin_stripes.specs.Timed.{taken, done_at, done_to_expire}
use Rattle.bin_stripes.specs.Deeds.{CallsBy, RefusesBy, ExpiresBy}
use Rattle.bin_stripes.specs.Saves.{kept_from}
use Rattle.bin_stripes.proofs.SaveLemmas.{HandNothingOut}
use Rattle.bin_stripes.proofs.StripeTables.{leaves_within}

module _ (n k : ℕ) (v : View GhostAction) where
  -- a key is removed that had this value
  removed : (t u : Table) (key gone : List ℕ) → finmap.get t key ≡ Some gone → u ≡ finmap.remove t key → stripe_of n key ≡ k
      → Does n k t (called (on_key key remove) (Value (Some gone))) u
  removed t u key gone had is here = (here, (None, ((refl, ap Value (sym had)), is)))

  -- first a key is taken away, or not, and then more is done
  taken_then : (was_over : Bool) (t u x : Table) (key gone : List ℕ) (more : List Action) → (IsTrue was_over → finmap.get t key ≡ Some gone)
      → u ≡ (if was_over then finmap.remove t key else t) → stripe_of n key ≡ k → Replays (does n k) u (own_events v more) x
      → Replays (does n k) t (own_events v (taken was_over key gone ++ more)) x
  taken_then true t u x key gone more had is here r = (u, (removed t u key gone (had refl) is here, r))
  taken_then false t u x key gone more had is here r = subst (λ (z : Table). Replays (does n k) z (own_events v more) x) is r

  -- a key is taken away, or not
  taken_alone : (was_over : Bool) (t u : Table) (key gone : List ℕ) → (IsTrue was_over → finmap.get t key ≡ Some gone)
      → u ≡ (if was_over then finmap.remove t key else t) → stripe_of n key ≡ k
      → Replays (does n k) t (own_events v (taken was_over key gone)) u
  taken_alone true t u key gone had is here = (u, (removed t u key gone (had refl) is here, refl))
  taken_alone false t u key gone had is here = is

  made : (t u : Table) (actions : List Action) → Leaves n k (seen_of v k) t → Replays (does n k) t (own_events v actions) u
      → Leaves n k (seen_of v k ++ own_events v actions) u
  made t u actions l r = Replays-append (does n k) empty t u (seen_of v k) (own_events v actions) l r

  -- a call was made, at a time or whatever the time is
  pub call_made_at : (timing : Option Timing) (before after : TimedTable) (invocation : Invocation) (timed : TimedReply) (bytes : List ℕ)
      → Leaves n k (seen_of v k) before.table → stripe_of n invocation.key ≡ k → MakesCall timing before invocation timed bytes after
      → (actions : List Action) × (CallsBy timing invocation timed bytes before after actions × Leaves n k (seen_of v k ++ own_events v actions) after.table)
  call_made_at None before after invocation timed bytes l here calls = let action = called invocation (reply_by timed.kind bytes) in
      (action ∷ [], (refl, made before.table after.table (action ∷ []) l (after.table, ((here, calls.answers), refl))))
  call_made_at (Some timing) before after invocation timed bytes l here calls = let actions = done_at invocation timed bytes calls in (
    actions,
    (
      (calls, refl),
      made before.table after.table actions l
          (taken_then timed.was_over before.table calls.between.table after.table invocation.key calls.takes.gone
          (called invocation (reply_by timed.kind bytes) ∷ []) calls.takes.had calls.takes.table here (after.table, ((here, calls.calls.answers), refl))),
    ),
  )

  -- a call was refused
  pub refusal_made : (timing : Option Timing) (before after : TimedTable) (invocation : Invocation)
      → Leaves n k (seen_of v k) before.table → stripe_of n invocation.key ≡ k → RefusesCall timing before invocation after
      → (actions : List Action) × (RefusesBy timing invocation before after actions × Leaves n k (seen_of v k ++ own_events v actions) after.table)
  refusal_made None before after invocation l here refuses =
      ([], ((refuses.1, refl), made before.table after.table [] l (ap (λ (t : TimedTable). t.table) refuses.0)))
  refusal_made (Some timing) before after invocation l here refuses =
      ([], ((refuses, refl), made before.table after.table [] l refuses.tells.table))

  -- at most one entry was taken away
  pub expiry_made : (before after : TimedTable) (now : ℕ) (expiry : Expiry) → Leaves n k (seen_of v k) before.table → Expires before now expiry after
      → (actions : List Action) × (ExpiresBy now expiry before after actions × Leaves n k (seen_of v k ++ own_events v actions) after.table)
  expiry_made before after now expiry l expires = let actions = done_to_expire before after now expiry expires in
      (actions, ((expires, refl), made before.table after.table actions l (replays expiry expires)))
    where
      replays : (expiry : Expiry) (expires : Expires before now expiry after) → Replays (does n k) before.table (own_events v (done_to_expire before after now expiry expires)) after.table
      replays (Took key) e = taken_alone true before.table after.table key e.gone e.had e.table (leaves_within n k before.table (seen_of v k) l key e.gone (e.had refl))
      replays (Waits at) e = e.tells.table
      replays Nothing e = e.tells.table

-- none of these actions hands anything out
pub taken_hand_out : (was_over : Bool) (key gone : List ℕ) (more : List Action) → HandNothingOut more → HandNothingOut (taken was_over key gone ++ more)
taken_hand_out true key gone more none v kept = none v kept
taken_hand_out false key gone more none v kept = none v kept

pub calls_hand_out : (timing : Option Timing) (invocation : Invocation) (timed : TimedReply) (bytes : List ℕ) (before after : TimedTable) (actions : List Action)
    → CallsBy timing invocation timed bytes before after actions → HandNothingOut actions
calls_hand_out None invocation timed bytes before after actions is v kept = ap (λ acts. kept_from kept (own_events v acts)) is
calls_hand_out (Some timing) invocation timed bytes before after actions is v kept = ap (λ acts. kept_from kept (own_events v acts)) is.1
    ∙ taken_hand_out timed.was_over invocation.key is.0.takes.gone (called invocation (reply_by timed.kind bytes) ∷ []) (λ w t. refl) v kept

pub refusals_hand_out : (timing : Option Timing) (invocation : Invocation) (before after : TimedTable) (actions : List Action)
    → RefusesBy timing invocation before after actions → HandNothingOut actions
refusals_hand_out None invocation before after actions is v kept = ap (λ acts. kept_from kept (own_events v acts)) is.1
refusals_hand_out (Some timing) invocation before after actions is v kept = ap (λ acts. kept_from kept (own_events v acts)) is.1

pub expiries_hand_out : (now : ℕ) (expiry : Expiry) (before after : TimedTable) (actions : List Action) → ExpiresBy now expiry before after actions → HandNothingOut actions
expiries_hand_out now expiry before after actions is v kept = ap (λ acts. kept_from kept (own_events v acts)) is.1 ∙ none expiry is.0
  where
    none : (expiry : Expiry) (expires : Expires before now expiry after) → kept_from kept (own_events v (done_to_expire before after now expiry expires)) ≡ kept
    none (Took key) e = refl
    none (Waits at) e = refl
    none Nothing e = refl
