-- Events of others, if one view carries all numbers.
use Rattle.std.proofs.Common.{◌≡◌, ℕ, ◌<◌, true, true≢false, List, [], ◌∷◌, sym, ◌∙◌, refl}
use Rattle.std.proofs.lemmas.List.Elements.{All-head}
use Rattle.stripe_rule.specs.declared.view.Event.{Event}
use Rattle.stripe_rule.specs.History.{has, AreOthers, AreBelow}
use Rattle.stripe_rule.proofs.HistoryLemmas.{IsOther, IsBelow}

module _ {D : Type 0} where
  -- no others' events have numbers of passes
  pub nothing_between : (passes : ℕ) (ns : List ℕ) (between : List (Event D)) → ((q : ℕ) → q < passes → has q ns ≡ true) → AreBelow passes between → AreOthers ns between → between ≡ []
  nothing_between passes ns [] all below others = refl
  nothing_between passes ns (e ∷ es) all below others = absurd (true≢false (sym (all e.by (All-head (IsBelow passes) e es below)) ∙ All-head (IsOther ns) e es others))
