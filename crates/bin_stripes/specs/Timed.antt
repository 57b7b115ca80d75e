-- Calls at a time. An entry whose time is over goes by a Remove, in the same hold of its stripe as the call. A stripe's
-- history says nothing of deadlines: these records tell what they were before and after one call, and not since when.
use Rattle.std.specs.Prelude.{◌≡◌, ℕ, Bool, true, false, List, [], ◌∷◌, ◌++◌, Option, Some, None}
use Rattle.stripe_rule.specs.Gains.{seen_of}
use Rattle.atomic_methods.specs.declared.reply.Reply.TheVariants.{Value}
use Rattle.atomic_methods.specs.Invocations.{Invocation, on_key, remove}
use Rattle.atomic_methods.specs.Plans.{reply_by}
use Rattle.timed_bins.specs.Deadlines.{TimedTable, CallsTimed, RefusesTimed, Expires}
use Rattle.timed_bins.specs.declared.timing.Timing.{Timing}
use Rattle.timed_bins.specs.declared.timing.TimedReply.{TimedReply}
use Rattle.timed_bins.specs.declared.timing.Expiry.{Expiry}
use Rattle.timed_bins.specs.declared.timing.Expiry.TheVariants.{Took, Waits, Nothing}
use Rattle.bin_stripes.specs.declared.expiry.Expiry.{Expiry as PlainExpiry}
use Rattle.bin_stripes.specs.declared.expiry.Expiry.TheVariants as plain
use Rattle.bin_stripes.specs.Actions.{Action, called}
use Rattle.bin_stripes.specs.Histories.{Leaves}
use Rattle.bin_stripes.specs.Passes.{PassState, stripes_of}
use Rattle.bin_stripes.specs.Invoked.{Makes, Calls, RefusesCall, stripe_for}

-- if its time was over, the key was removed, and had this value; else nothing was done
abbrev pub taken : Bool → List ℕ → List ℕ → List Action
taken true key gone = called (on_key key remove) (Value (Some gone)) ∷ []
taken false key gone = []

-- what a call at a time did: its key was taken away if its time was over, and then the invocation got the reply
abbrev pub done_at : {before after : TimedTable} {timing : Timing} → (invocation : Invocation) (timed : TimedReply) (bytes : List ℕ)
    → CallsTimed before timing invocation timed bytes after → List Action
done_at invocation timed bytes calls =
    taken timed.was_over invocation.key calls.takes.gone ++ called invocation (reply_by timed.kind bytes) ∷ []

-- what was done to take one entry away
abbrev pub done_to_expire : (before after : TimedTable) (now : ℕ) (expiry : Expiry) → Expires before now expiry after → List Action
done_to_expire before after now (Took key) takes = taken true key takes.gone
done_to_expire before after now (Waits at) waits = []
done_to_expire before after now Nothing finds = []

-- the pass made the invocation at a time, in one hold of its stripe, and it got the reply. The events seen until then leave
-- the table before; what the reply says of the time holds of the deadlines before and after
pub record CallsAt (old : PassState) (timing : Timing) (invocation : Invocation) (timed : TimedReply) (bytes : List ℕ)
    (new : PassState) : Type 0 where
  pub before : TimedTable
  pub after : TimedTable
  pub calls : CallsTimed before timing invocation timed bytes after
  pub makes : Makes old (stripe_for old invocation) (done_at invocation timed bytes calls) new
  pub found : Leaves (stripes_of old.map) (stripe_for old invocation)
      (seen_of old.view (stripe_for old invocation) ++ makes.here.between) before.table

-- memory was refused to the invocation, and the pass did nothing; what the events seen until then leave says why
pub record RefusesAt (old : PassState) (timing : Timing) (invocation : Invocation) (new : PassState) : Type 0 where
  pub before : TimedTable
  pub after : TimedTable
  pub refuses : RefusesTimed before timing invocation after
  pub makes : Makes old (stripe_for old invocation) [] new
  pub found : Leaves (stripes_of old.map) (stripe_for old invocation)
      (seen_of old.view (stripe_for old invocation) ++ makes.here.between) before.table

-- the same without the key
abbrev pub plain_of : Expiry → PlainExpiry
plain_of (Took key) = plain.Took
plain_of (Waits at) = plain.Waits at
plain_of Nothing = plain.Nothing

-- the pass took one entry of the stripe k away, whose time was over by now, or none
pub record ExpiresOne (old : PassState) (k now : ℕ) (answer : PlainExpiry) (new : PassState) : Type 0 where
  pub expiry : Expiry
  pub answer_is : answer ≡ plain_of expiry
  pub before : TimedTable
  pub after : TimedTable
  pub expires : Expires before now expiry after
  pub makes : Makes old k (done_to_expire before after now expiry expires) new
  pub found : Leaves (stripes_of old.map) k (seen_of old.view k ++ makes.here.between) before.table

-- the pass made the invocation, at a time or whatever the time is, and it got the reply
abbrev pub PassCalls : Option Timing → PassState → Invocation → TimedReply → List ℕ → PassState → Type 0
PassCalls None old invocation timed bytes new = Calls old invocation (reply_by timed.kind bytes) new
PassCalls (Some timing) old invocation timed bytes new = CallsAt old timing invocation timed bytes new

-- memory was refused to the invocation, at a time or whatever the time is
abbrev pub PassIsRefused : Option Timing → PassState → Invocation → PassState → Type 0
PassIsRefused None old invocation new = RefusesCall old invocation new
PassIsRefused (Some timing) old invocation new = RefusesAt old timing invocation new
