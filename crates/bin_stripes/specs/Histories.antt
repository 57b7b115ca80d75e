-- Histories of a map's stripes: lists of events, each an action with the number of a pass.
use Rattle.std.specs.Prelude.{ℕ, List, map}
use Rattle.std.specs.FinMap as finmap
use Rattle.stripe_rule.specs.declared.view.Event.{Event}
use Rattle.stripe_rule.specs.declared.view.View.{View}
use Rattle.stripe_rule.specs.History.{Replays}
use Rattle.stripe_rule.specs.Gains.{own_event, IsSound}
use Rattle.bins.specs.Table.{Table}
use Rattle.bin_stripes.specs.declared.ghost_action.GhostAction.{GhostAction}
use Rattle.bin_stripes.specs.Actions.{Action, Does}

-- the table of a stripe before its first event
abbrev pub empty : Table
empty = finmap.empty

-- doing the action on the table of the stripe k of this many leaves the new one, and its outcome is the recorded one
abbrev pub does : ℕ → ℕ → Table → GhostAction → Table → Type 0
does stripes k table action new = Does stripes k table action.action new

-- the events of these actions, made in turn by a pass with its least number
abbrev pub own_events : View GhostAction → List Action → List (Event GhostAction)
own_events v actions = map (λ action. own_event v (record { action = action })) actions

-- the list of events of the stripe k of this many is legal, and leaves this table
abbrev pub Leaves : ℕ → ℕ → List (Event GhostAction) → Table → Type 0
Leaves stripes k events table = Replays (does stripes k) empty events table

-- what always holds of a pass's knowledge, in a map of this many stripes
abbrev pub Sound : ℕ → View GhostAction → Type 0
Sound stripes v = IsSound (does stripes) empty v
