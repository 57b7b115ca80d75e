-- Room for the deadline of a call's key, before and after the call.
use Rattle.std.proofs.Common.{◌≡◌, ℕ, false, List, Option, None, refl, sym, ap, subst, ◌∙◌}
use Rattle.std.specs.FinMap as map
use Rattle.atomic_methods.specs.declared.reply.ReplyKind.{ReplyKind}
use Rattle.atomic_methods.specs.Invocations.{Method}
use Rattle.bins.specs.Table.{Table}
use Rattle.timed_bins.specs.declared.timed.Made.{Made}
use Rattle.timed_bins.specs.declared.timed.Room.{Room}
use Rattle.timed_bins.specs.declared.timed.Room.TheVariants.{NotNeeded}
use Rattle.timed_bins.specs.declared.timing.DeadlineChange.{DeadlineChange}
use Rattle.timed_bins.specs.declared.timing.DeadlineChange.TheVariants.{Keep, Clear, Set, Extend}
use Rattle.timed_bins.specs.Agendas.{Schedule, SetsDeadline, deadline_of}
use Rattle.timed_bins.specs.Deadlines.{asks_room, changed}
use Rattle.timed_bins.specs.Steps.{MakesRoom, Settles, before_in}
use Rattle.timed_bins.specs.Touched.{deadline_by, touch_of}
use Rattle.timed_bins.proofs.RowLemmas.{none_in, sets_nothing}
use Rattle.timed_bins.proofs.StateLemmas.{sets_twice}

-- a change that needs no room sets none
no_change : (change : DeadlineChange) → asks_room change ≡ false → changed change None ≡ None
no_change Keep asks = refl
no_change Clear asks = refl
no_change (Set at rule) asks = absurd cc
no_change (Extend by) asks = refl

-- without deadlines, no room is needed for a change that sets none
pub none_needed : (change : DeadlineChange) (key : List ℕ) (schedule : Schedule) → schedule.times ≡ map.empty → asks_room change ≡ false
    → MakesRoom change key schedule.times NotNeeded schedule
none_needed change key schedule is asks = record {
  before = none_in schedule.times key is;
  sets = sets_nothing schedule.times key _ refl;
  ready = λ at e. absurd (let no = sym (no_change change asks) ∙ e in cc);
  none = λ same. (sym (none_in schedule.times key is), asks);
}

-- the key's deadline was changed, from before the room was made until after the call
pub settled : (change : DeadlineChange) (key : List ℕ) (method : Method) (old : Table) (room : Room) (between : Schedule) (kind : ReplyKind) (made : Made) (new : Table)
    → MakesRoom change key old room between → Settles change method (before_in room (deadline_of between.times key)) kind made → SetsDeadline between.times new key made.after
    → SetsDeadline old new key (deadline_by (touch_of method kind) (changed change (deadline_of old key)) (deadline_of old key))
settled change key method old room between kind made new makes settles sets =
    let same : made.after ≡ deadline_by (touch_of method kind) (changed change (deadline_of old key)) (deadline_of old key) =
    settles.after ∙ ap (λ (b : Option ℕ). deadline_by (touch_of method kind) (changed change b) b) makes.before in
    sets_twice old between.times new key _ _ makes.sets (subst (SetsDeadline between.times new key) same sets)
