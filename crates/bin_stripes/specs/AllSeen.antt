-- The events seen by a pass that carries the number of every pass.
use Rattle.std.specs.Prelude.{◌≡◌, ℕ, ◌<◌, ◌++◌}
use Rattle.stripe_rule.specs.declared.view.View.{View}
use Rattle.stripe_rule.specs.History.{made_by}
use Rattle.stripe_rule.specs.Gains.{Carries, seen_of, mine_of}
use Rattle.bin_stripes.specs.declared.ghost_action.GhostAction.{GhostAction}

-- it carries the number of every pass of the map
abbrev pub CarriesAll : View GhostAction → Type 0
CarriesAll v = (q : ℕ) → q < v.passes → Carries v q

-- of each stripe it has seen exactly the events that were made with each number, in order
abbrev pub SeesJustMine : View GhostAction → Type 0
SeesJustMine v = (k q : ℕ) → made_by q (seen_of v k) ≡ made_by q (mine_of v k)

-- of each stripe the joined pass has seen exactly the events that the two had made with each number, in order
abbrev pub SeesJustTheirs : ℕ → View GhostAction → View GhostAction → View GhostAction → Type 0
SeesJustTheirs stripes v other w =
    (k q : ℕ) → k < stripes → made_by q (seen_of w k) ≡ made_by q (mine_of v k ++ mine_of other k)
