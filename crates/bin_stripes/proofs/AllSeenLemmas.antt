-- A pass that carries every number has seen exactly what was made.
use Rattle.std.proofs.Common.{◌≡◌, ℕ, ◌<◌, true, List, [], ◌∷◌, sym, ap, ◌∙◌, ⊎_elim}
use Rattle.std.proofs.lemmas.List.Elements.{All-nil, All-cons, All-head, All-tail}
use Rattle.stripe_rule.specs.declared.view.Event.{Event}
use Rattle.stripe_rule.specs.declared.view.View.{View}
use Rattle.stripe_rule.specs.History.{has, made_by, AreUnder, AreBelow}
use Rattle.stripe_rule.specs.Gains.{seen_of, mine_of, IsJoined}
use Rattle.stripe_rule.proofs.HistoryLemmas.{IsUnder, IsBelow, bool_cases, under_none}
use Rattle.bin_stripes.specs.declared.ghost_action.GhostAction.{GhostAction}
use Rattle.bin_stripes.specs.Histories.{Sound}
use Rattle.bin_stripes.specs.AllSeen.{CarriesAll, SeesJustMine, SeesJustTheirs}

-- if these are the numbers of all passes, every event of an opened pass has one of them
below_under : {D : Type 0} (passes : ℕ) (numbers : List ℕ) (es : List (Event D)) → ((q : ℕ) → q < passes → has q numbers ≡ true)
    → AreBelow passes es → AreUnder numbers es
below_under passes numbers [] all below = All-nil (IsUnder numbers)
below_under passes numbers (e ∷ es) all below =
    All-cons (IsUnder numbers) e es (all e.by (All-head (IsBelow passes) e es below)) (below_under passes numbers es all (All-tail (IsBelow passes) e es below))

-- with a number that it carries it has the events that it made, and with another none
pub sees_just_mine : (n : ℕ) (v : View GhostAction) → Sound n v → CarriesAll v → SeesJustMine v
sees_just_mine n v sound all k q = ⊎_elim (λ carried. sound.own k q carried)
    (λ not. under_none v.numbers q (seen_of v k) not (below_under v.passes v.numbers (seen_of v k) all (sound.below k))
    ∙ sym (under_none v.numbers q (mine_of v k) not (sound.under k)))
    (bool_cases (has q v.numbers))

-- the joined pass made what the two made
pub sees_just_theirs : (m n : ℕ) (v other w : View GhostAction) → Sound m w → IsJoined n v other w → CarriesAll w → SeesJustTheirs n v other w
sees_just_theirs m n v other w sound joined all k q below = sees_just_mine m w sound all k q ∙ ap (made_by q) (joined.mine k below)
