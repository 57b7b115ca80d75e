-- What a call needs before it is made and leaves when it was refused, and why it may be.
use Rattle.std.specs.Prelude.{◌≡◌, ℕ, ◌⊎◌, IsTrue, Bool, false, max, List, Option, Some, None}
use Rattle.atomic_methods.specs.declared.reply.ReplyKind.{ReplyKind}
use Rattle.atomic_methods.specs.Invocations.{Invocation, Method}
use Rattle.atomic_methods.specs.Methods.{WouldAdd}
use Rattle.bins.specs.Table.{Table}
use Rattle.timed_bins.specs.declared.timed.Made.{Made}
use Rattle.timed_bins.specs.declared.timed.Room.{Room}
use Rattle.timed_bins.specs.declared.timed.Room.TheVariants.{NotNeeded, There, Added}
use Rattle.timed_bins.specs.declared.timing.DeadlineChange.{DeadlineChange}
use Rattle.timed_bins.specs.declared.timing.Timing.{Timing}
use Rattle.timed_bins.specs.Agendas.{HasRoom, Schedule, SetsDeadline, deadline_of}
use Rattle.timed_bins.specs.Deadlines.{TimedTable, TellsTime, asks_room, change_of, changed, is_over}
use Rattle.timed_bins.specs.Touched.{deadline_by, touch_of}

-- what becomes of the key's deadline in a call: what its timing says, or what its method does without a clock
abbrev pub change_at : Option Timing → Method → DeadlineChange
change_at None method = change_of method
change_at (Some timing) method = timing.change

-- the time was told, and if the key's time is over then; without a clock nothing was done
abbrev pub LooksFirst : TimedTable → Option Timing → List ℕ → TimedTable → Bool → Type 0
LooksFirst old None key new over = (new ≡ old) × (over ≡ false)
LooksFirst old (Some timing) key new over =
    TellsTime old timing.now new × (over ≡ is_over (old.deadline key) (max old.latest timing.now))

-- the key's deadline before the call, by the one that its row has now that there is room
abbrev pub before_in : Room → Option ℕ → Option ℕ
before_in NotNeeded held = None
before_in There held = held
before_in Added held = None

-- if no room is needed, the key has no deadline, and the change sets none
abbrev pub NeedsNone : DeadlineChange → List ℕ → Room → Table → Type 0
NeedsNone change key room times = room ≡ NotNeeded → (deadline_of times key ≡ None) × (asks_room change ≡ false)

-- there is room for the deadline that the change makes of the one before, if it isn't the one that the row has
abbrev pub IsReady : DeadlineChange → List ℕ → Room → Schedule → Type 0
IsReady change key room schedule =
    let held = deadline_of schedule.times key in
    (at : ℕ) → changed change (before_in room held) ≡ Some at → (held ≡ Some at) ⊎ HasRoom schedule key at

-- room was made for this change of the key's deadline
pub record MakesRoom (change : DeadlineChange) (key : List ℕ) (old : Table) (room : Room) (new : Schedule) : Type 0 where
  pub before : before_in room (deadline_of new.times key) ≡ deadline_of old key
  pub sets : SetsDeadline old new.times key (deadline_of new.times key)
  pub ready : IsReady change key room new
  pub none : NeedsNone change key room new.times

-- the call on a key with this deadline was made and had a reply of this kind, and its deadline is settled
pub record Settles (change : DeadlineChange) (method : Method) (old : Option ℕ) (reply : ReplyKind) (made : Made) : Type 0 where
  pub kind : made.kind ≡ reply
  pub before : made.before ≡ old
  pub after : made.after ≡ deadline_by (touch_of method reply) (changed change old) old

-- each key has the deadline that it had
abbrev pub KeepsDeadlines : Table → Table → Type 0
KeepsDeadlines old new = (key : List ℕ) → deadline_of new key ≡ deadline_of old key

-- the invocation would add its key, or the change may need room for a deadline
abbrev pub MayRefuse : Table → DeadlineChange → Invocation → Type 0
MayRefuse table change invocation = WouldAdd table invocation ⊎ IsTrue (asks_room change)
