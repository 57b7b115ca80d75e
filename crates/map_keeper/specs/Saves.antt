-- What a pass that only saves makes and knows.
use Rattle.std.specs.Prelude.{◌≡◌, ℕ, List, Option, ◌++◌, All}
use Rattle.stripe_rule.specs.declared.view.Event.{Event}
use Rattle.stripe_rule.specs.declared.view.View.{View}
use Rattle.stripe_rule.specs.Gains.{seen_of, mine_of}
use Rattle.bin_stripes.specs.declared.ghost_action.GhostAction.{GhostAction}
use Rattle.noted_bins.specs.declared.taken.Taken.{Taken}
use Rattle.bin_stripes.specs.Actions.{saved}
use Rattle.bin_stripes.specs.Histories.{Leaves}
use Rattle.bin_stripes.specs.Passes.{PassState, stripes_of}
use Rattle.bin_stripes.specs.Saves.{kept_in}

-- the rows that were handed out of the stripe k, in their order, come to the table that its events leave, up to the last that is seen
abbrev pub IsWholeIn : ℕ → View GhostAction → ℕ → Type 0
IsWholeIn stripes view k = Leaves stripes k (seen_of view k) (kept_in (seen_of view k))

-- .. that the pass has seen
abbrev pub IsWhole : PassState → ℕ → Type 0
IsWhole pass k = IsWholeIn (stripes_of pass.map) pass.view k

-- the event handed out rows, and changed nothing
abbrev pub IsSave : Event GhostAction → Type 0
IsSave event = (taken : Taken) × (rows : List (List ℕ × Option (List ℕ))) × (event.action.action ≡ saved taken rows)

-- all that the pass made since then, on any stripe, are saves
abbrev pub MadeOnlySaves : View GhostAction → View GhostAction → Type 0
MadeOnlySaves old new = (k : ℕ) → (more : List (Event GhostAction)) × (mine_of new k ≡ mine_of old k ++ more) × All IsSave more
