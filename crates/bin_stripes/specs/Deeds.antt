-- What was done to a held stripe at a time, by its bins before and after.
use Rattle.std.specs.Prelude.{◌≡◌, ℕ, Bool, false, List, [], ◌∷◌, ◌++◌, Option, Some, None, All}
use Rattle.atomic_table.specs.Table.{Me}
use Rattle.stripe_rule.specs.declared.view.View.{View}
use Rattle.stripe_rule.specs.Gains.{seen_of}
use Rattle.atomic_methods.specs.Invocations.{Invocation}
use Rattle.atomic_methods.specs.Methods.{WouldAdd}
use Rattle.atomic_methods.specs.Plans.{reply_by}
use Rattle.timed_bins.specs.Deadlines.{TimedTable, CallsTimed, RefusesTimed, Expires}
use Rattle.timed_bins.specs.declared.timing.Timing.{Timing}
use Rattle.timed_bins.specs.declared.timing.TimedReply.{TimedReply}
use Rattle.timed_bins.specs.declared.timing.Expiry.{Expiry}
use Rattle.bin_stripes.specs.declared.ghost_action.GhostAction.{GhostAction}
use Rattle.noted_bins.specs.declared.taken.Taken.{Taken}
use Rattle.noted_bins.specs.Rows.{Row, row_of, values_of}
use Rattle.noted_bins.specs.Notes.{TakesChanges, is_some}
use Rattle.bin_stripes.specs.Actions.{Action, called, saved}
use Rattle.bin_stripes.specs.Histories.{Leaves}
use Rattle.bin_stripes.specs.Releasing.{Lets}
use Rattle.bin_stripes.specs.Holding.{Settles}
use Rattle.bin_stripes.specs.Saves.{kept_in}
use Rattle.bin_stripes.specs.Timed.{done_at, done_to_expire}

-- the actions of a call, at a time or whatever the time is
abbrev pub CallsBy : Option Timing → Invocation → TimedReply → List ℕ → TimedTable → TimedTable → List Action → Type 0
CallsBy None invocation timed bytes before after actions = actions ≡ called invocation (reply_by timed.kind bytes) ∷ []
CallsBy (Some timing) invocation timed bytes before after actions =
    (calls : CallsTimed before timing invocation timed bytes after) × (actions ≡ done_at invocation timed bytes calls)

-- a refused call did nothing
abbrev pub RefusesBy : Option Timing → Invocation → TimedTable → TimedTable → List Action → Type 0
RefusesBy None invocation before after actions = WouldAdd before.table invocation × (actions ≡ [])
RefusesBy (Some timing) invocation before after actions =
    RefusesTimed before timing invocation after × (actions ≡ [])

-- the actions by which at most one entry goes
abbrev pub ExpiresBy : ℕ → Expiry → TimedTable → TimedTable → List Action → Type 0
ExpiresBy now expiry before after actions =
    (expires : Expires before now expiry after) × (actions ≡ done_to_expire before after now expiry expires)

-- the seat let the stripe k go after these actions, by its bins before and after; the bins before had the table of the
-- events that the seat had seen
pub record LetsAt {B : Type 0} (did : TimedTable → TimedTable → List Action → Type 0) (stripes k : ℕ)
    (me me' : Me (Option B) (View GhostAction)) : Type 0 where
  pub before : TimedTable
  pub after : TimedTable
  pub found : Leaves stripes k (seen_of me.0 k) before.table
  pub lets : Lets (did before after) stripes k me me'

-- after all that it had seen of the stripe k, the seat saw others' events and made these actions, by its bins before and
-- after; the bins before had the table of the events seen until then
pub record SettlesAt {B : Type 0} (did : TimedTable → TimedTable → List Action → Type 0) (stripes k : ℕ)
    (me me' : Me (Option B) (View GhostAction)) : Type 0 where
  pub before : TimedTable
  pub after : TimedTable
  pub actions : List Action
  pub did_so : did before after actions
  pub settles : Settles stripes k me actions me'
  pub found : Leaves stripes k (seen_of me.0 k ++ settles.adds.here.between) before.table

-- the action of a save that added rows to a list, by the bins and the keys noted before and after
abbrev pub SavesBy : List Row → List Row → Taken → (List ℕ → Bool) → TimedTable → (List ℕ → Bool) → TimedTable → List Action → Type 0
SavesBy old new taken noted before noted' after actions = (rows : List Row) × ((new ≡ old ++ rows)
    × (TakesChanges noted before taken rows noted' after × (actions ≡ saved taken (values_of rows) ∷ [])))

-- the seat let the stripe k go after one save, which added these rows to a list; if it left no key noted, what was handed out of
-- the stripe comes to its table
pub record LetsSave {B : Type 0} (stripes k : ℕ) (old new : List Row) (taken : Taken)
    (me me' : Me (Option B) (View GhostAction)) : Type 0 where
  pub rows : List Row
  pub added : new ≡ old ++ rows
  pub bins : TimedTable
  pub found : Leaves stripes k (seen_of me.0 k) bins.table
  pub present : All (λ row. row.1 ≡ row_of bins row.0) rows
  pub lets : Lets (λ actions. actions ≡ saved taken (values_of rows) ∷ []) stripes k me me'
  pub whole : is_some taken ≡ false → Leaves stripes k (seen_of me'.0 k) (kept_in (seen_of me'.0 k))
