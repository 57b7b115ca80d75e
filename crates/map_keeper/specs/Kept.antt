-- What a file has of a stripe, against what was handed out of it.
use Rattle.std.specs.Prelude.{◌≡◌, ◌⊎◌, ◌==◌, ℕ, ◌<◌, ◌≤◌, Bool, true, List, [], ◌∷◌, All, IsTrue}
use Rattle.sqlite.specs.State.{State}
use Rattle.sqlite.specs.Tree.{Trees}
use Rattle.bins.specs.Table.{Table}
use Rattle.kept_file.specs.Content.{HasTables}
use Rattle.stripe_rule.specs.declared.view.Event.{Event}
use Rattle.stripe_rule.specs.declared.view.View.{View}
use Rattle.stripe_rule.specs.Gains.{mine_of, seen_of}
use Rattle.bin_stripes.specs.declared.ghost_action.GhostAction.{GhostAction}
use Rattle.bin_stripes.specs.Histories.{Leaves}
use Rattle.bin_stripes.specs.Passes.{PassState, stripes_of}
use Rattle.bin_stripes.specs.Saves.{kept_in}
use Rattle.map_keeper.specs.Saves.{IsSave}
use Rattle.map_keeper.specs.Stripes.{HasStripe}

-- of each stripe below n the file has what the rows come to that a pass handed out; or all is taken anew by the next save
pub record IsInStep (anew : Bool) (view : View GhostAction) (n : ℕ) (file : State) : Type 0 where
  pub tables : HasTables file
  pub stripes : (k : ℕ) → k < n → IsTrue anew ⊎ HasStripe file k (kept_in (mine_of view k))

-- the file as it is when it has these trees
abbrev pub with_trees : State → Trees → State
with_trees file trees = record file { now = record file.now { trees = trees } }

-- an event that was not made with the number q hands out no rows
abbrev pub OnlySaves : ℕ → List (Event GhostAction) → Type 0
OnlySaves q events = All (λ event. ((q == event.by) ≡ true) ⊎ ¬ IsSave event) events

-- what the file has of the stripe k is its content after all events that the pass has seen there
pub record HasContent (file : State) (pass : PassState) (k : ℕ) : Type 0 where
  pub table : Table
  pub left : Leaves (stripes_of pass.map) k (seen_of pass.view k) table
  pub had : HasStripe file k table

-- the file has its tables. Of each stripe below `reached` it has what the rows come to that a pass handed out; if no other pass saves, that is
-- its content after all events that the pass has seen there. Of the other stripes below n it has just what it had before
pub record IsSavedPartly (pass : PassState) (n : ℕ) (before after : State) : Type 0 where
  pub tables : HasTables after
  pub reached : ℕ
  pub saved : (k : ℕ) → k < reached → HasStripe after k (kept_in (mine_of pass.view k))
  pub content : (k q : ℕ) → k < reached → pass.view.numbers ≡ q ∷ [] → OnlySaves q (seen_of pass.view k) → HasContent after pass k
  pub others : (k : ℕ) (table : Table) → reached ≤ k → k < n → HasStripe before k table → HasStripe after k table
