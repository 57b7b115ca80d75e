-- Deadlines of keys, and what calls do with them. A deadline is a time in milliseconds since the epoch, and is over from
-- that time on. Redis 7: SET, EXPIRE and TTL; but here an entry whose time is over is taken away by a Remove of its own.
use Rattle.std.specs.Prelude.{◌≡◌, ◌≢◌, ℕ, ◌+◌, ◌-◌, ◌^◌, ◌<◌, ◌≤◌, ◌⊎◌, Bool, true, false, IsTrue, List, Option, Some, None, max, min, nat_le, nat_lt, if◌then◌else◌}
use Rattle.std.specs.FinMap as map
use Rattle.bins.specs.Table.{Table}
use Rattle.atomic_methods.specs.declared.reply.Reply.{Reply}
use Rattle.atomic_methods.specs.declared.reply.Reply.TheVariants.{Value, Done, Unfit}
use Rattle.atomic_methods.specs.Invocations.{Method, get, put, put_if_absent, remove, remove_if, replace, replace_if, compute, compute_if_absent, compute_if_present, merge, Invocation}
use Rattle.atomic_methods.specs.Methods.{Answers, WouldAdd}
use Rattle.atomic_methods.specs.Plans.{reply_by}
use Rattle.timed_bins.specs.declared.timing.DeadlineChange.{DeadlineChange}
use Rattle.timed_bins.specs.declared.timing.DeadlineChange.TheVariants.{Keep, Clear, Set, Extend}
use Rattle.timed_bins.specs.declared.timing.SetRule.{SetRule}
use Rattle.timed_bins.specs.declared.timing.SetRule.TheVariants.{Always, IfNone, IfSome, IfLater, IfSooner, IfSomeAndSooner}
use Rattle.timed_bins.specs.declared.timing.Timing.{Timing}
use Rattle.timed_bins.specs.declared.timing.TimedReply.{TimedReply}
use Rattle.timed_bins.specs.declared.timing.Expiry.{Expiry}
use Rattle.timed_bins.specs.declared.timing.Expiry.TheVariants.{Took, Waits, Nothing}

-- a table with the deadline of each key, or none, and the latest time that it was told
pub record TimedTable : Type 0 where
  pub table : Table
  pub deadline : List ℕ → Option ℕ
  pub latest : ℕ

abbrev pub timed_table : Table → (List ℕ → Option ℕ) → ℕ → TimedTable
timed_table table deadline latest = record { table = table; deadline = deadline; latest = latest }

-- if the deadline is over at this time
abbrev pub is_over : Option ℕ → ℕ → Bool
is_over None now = false
is_over (Some at) now = nat_le at now

-- if the rule sets this deadline for a key that has the old one; a key without one counts as never over
abbrev pub allows : SetRule → Option ℕ → ℕ → Bool
allows Always old at = true
allows IfNone None at = true
allows IfNone (Some before) at = false
allows IfSome None at = false
allows IfSome (Some before) at = true
allows IfLater None at = false
allows IfLater (Some before) at = nat_lt before at
allows IfSooner None at = true
allows IfSooner (Some before) at = nat_lt at before
allows IfSomeAndSooner None at = false
allows IfSomeAndSooner (Some before) at = nat_lt at before

-- the deadline after a change
abbrev pub changed : DeadlineChange → Option ℕ → Option ℕ
changed Keep old = old
changed Clear old = None
changed (Set at rule) old = if allows rule old at then Some at else old
changed (Extend by) None = None
changed (Extend by) (Some before) = Some (min (before + by) (2 ^ 64 - 1))

-- if the change may need room for a deadline
abbrev pub asks_room : DeadlineChange → Bool
asks_room Keep = false
asks_room Clear = false
asks_room (Set at rule) = true
asks_room (Extend by) = true

abbrev pub has_value : Reply → Bool
has_value (Value (Some value)) = true
has_value (Value None) = false
has_value (Done done) = false
has_value (Unfit part) = false

abbrev pub is_done : Reply → Bool
is_done (Value value) = false
is_done (Done done) = done
is_done (Unfit part) = false

abbrev pub has_none : Reply → Bool
has_none (Value (Some value)) = false
has_none (Value None) = true
has_none (Done done) = false
has_none (Unfit part) = false

-- if a call with this reply got to the entry, which it found or entered
abbrev pub reaches : Method → Reply → Bool
reaches get reply = has_value reply
reaches (put value) reply = true
reaches (put_if_absent value) reply = has_none reply
reaches remove reply = true
reaches (remove_if expected) reply = is_done reply
reaches (replace value) reply = has_value reply
reaches (replace_if expected value) reply = is_done reply
reaches (compute program arg) reply = has_value reply
reaches (compute_if_absent program arg) reply = has_value reply
reaches (compute_if_present program arg) reply = has_value reply
reaches (merge value program) reply = has_value reply

-- the deadline of a key that had this one, and has this value after a call that got to it or not
abbrev pub deadline_after : DeadlineChange → Bool → Option ℕ → Option (List ℕ) → Option ℕ
deadline_after change reached before None = None
deadline_after change reached before (Some value) = if reached then changed change before else before

-- what becomes of the deadline in a call without a clock: a value that is set goes without one
abbrev pub change_of : Method → DeadlineChange
change_of get = Keep
change_of (put value) = Clear
change_of (put_if_absent value) = Clear
change_of remove = Keep
change_of (remove_if expected) = Keep
change_of (replace value) = Clear
change_of (replace_if expected value) = Keep
change_of (compute program arg) = Keep
change_of (compute_if_absent program arg) = Keep
change_of (compute_if_present program arg) = Keep
change_of (merge value program) = Keep

-- the invocation was made and got the reply, with this change of its key's deadline; other keys keep theirs
pub record CallsWith (change : DeadlineChange) (old : TimedTable) (invocation : Invocation) (reply : Reply)
    (new : TimedTable) : Type 0 where
  pub answers : Answers old.table invocation new.table reply
  pub here : new.deadline invocation.key
      ≡ deadline_after change (reaches invocation.method reply) (old.deadline invocation.key) (map.get new.table invocation.key)
  pub others : (key : List ℕ) → key ≢ invocation.key → new.deadline key ≡ old.deadline key
  pub latest : new.latest ≡ old.latest

-- at this time the key was taken away if its time was over, and nothing else was done
pub record TakesIfOver (old : TimedTable) (key : List ℕ) (now : ℕ) (was_over : Bool) (new : TimedTable) : Type 0 where
  pub over : was_over ≡ is_over (old.deadline key) (max old.latest now)
  -- the value that went
  pub gone : List ℕ
  pub had : IsTrue was_over → map.get old.table key ≡ Some gone
  pub table : new.table ≡ (if was_over then map.remove old.table key else old.table)
  pub here : new.deadline key ≡ (if was_over then None else old.deadline key)
  pub others : (other : List ℕ) → other ≢ key → new.deadline other ≡ old.deadline other
  pub latest : new.latest ≡ max old.latest now

-- at a time, a call took its key away if its time was over, and then was made
pub record CallsTimed (old : TimedTable) (timing : Timing) (invocation : Invocation) (timed : TimedReply)
    (bytes : List ℕ) (new : TimedTable) : Type 0 where
  pub between : TimedTable
  pub takes : TakesIfOver old invocation.key timing.now timed.was_over between
  pub calls : CallsWith timing.change between invocation (reply_by timed.kind bytes) new
  pub before : timed.before ≡ between.deadline invocation.key
  pub after : timed.after ≡ new.deadline invocation.key

-- only the latest time may have changed
pub record TellsTime (old : TimedTable) (now : ℕ) (new : TimedTable) : Type 0 where
  pub table : new.table ≡ old.table
  pub deadlines : (key : List ℕ) → new.deadline key ≡ old.deadline key
  pub latest : new.latest ≡ max old.latest now

-- a call at a time was refused, and nothing was done: it would add its key, or its change is one that needs room for a deadline
pub record RefusesTimed (old : TimedTable) (timing : Timing) (invocation : Invocation) (new : TimedTable) : Type 0 where
  pub tells : TellsTime old timing.now new
  pub memory : WouldAdd old.table invocation ⊎ IsTrue (asks_room timing.change)

-- a call was made, at a time or without a clock
abbrev pub MakesCall : Option Timing → TimedTable → Invocation → TimedReply → List ℕ → TimedTable → Type 0
MakesCall None old invocation timed bytes new =
    CallsWith (change_of invocation.method) old invocation (reply_by timed.kind bytes) new
MakesCall (Some timing) old invocation timed bytes new = CallsTimed old timing invocation timed bytes new

-- a call was refused, at a time or without a clock; without one nothing was done, and it would add its key
abbrev pub RefusesCall : Option Timing → TimedTable → Invocation → TimedTable → Type 0
RefusesCall None old invocation new = (new ≡ old) × WouldAdd old.table invocation
RefusesCall (Some timing) old invocation new = RefusesTimed old timing invocation new

-- no deadline is over, nor is one before this time
pub record WaitsUntil (old : TimedTable) (now at : ℕ) (new : TimedTable) : Type 0 where
  pub tells : TellsTime old now new
  pub later : max old.latest now < at
  pub none_before : (key : List ℕ) (deadline : ℕ) → old.deadline key ≡ Some deadline → at ≤ deadline

-- no key has a deadline
pub record FindsNone (old : TimedTable) (now : ℕ) (new : TimedTable) : Type 0 where
  pub tells : TellsTime old now new
  pub none : (key : List ℕ) → old.deadline key ≡ None

-- what a look for an entry whose time is over came to: one key was taken away whose time was over, or there is none
abbrev pub Expires : TimedTable → ℕ → Expiry → TimedTable → Type 0
Expires old now (Took key) new = TakesIfOver old key now true new
Expires old now (Waits at) new = WaitsUntil old now at new
Expires old now Nothing new = FindsNone old now new
