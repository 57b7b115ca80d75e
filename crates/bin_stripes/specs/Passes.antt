-- What contracts see of a pass: its map, its numbers and its knowledge.
use Rattle.std.specs.Prelude.{◌≡◌, ℕ, [], ◌∷◌, List, length}
use Rattle.std.specs.Coded.{Coded, code_by, coded×}
use mathlib.Core.Path.{refl}
use Rattle.atomic_table.specs.Seated.{TableId, table_id_coded}
use Rattle.stripe_rule.specs.declared.view.View.{View}
use Rattle.stripe_rule.specs.contracts.view.View.{the_row as view_row}
use Rattle.stripe_rule.specs.Gains.{least, Carries, IsIdle}
use Rattle.stripe_rule.specs.Steps.{view_of}
use Rattle.bin_stripes.specs.declared.ghost_action.GhostAction.{GhostAction}
use Rattle.bin_stripes.specs.contracts.ghost_action.GhostAction.{the_row as action_row}
use Rattle.bin_stripes.specs.Histories.{Sound}

pub record PassState : Type 0 where
  pub map : TableId
  pub view : View GhostAction

abbrev pub pass_code : Coded PassState
pass_code = code_by (TableId × View GhostAction) (coded× table_id_coded (view_row action_row).coded)
    (λ p. (p.map, p.view)) (λ x. record { map = x.0; view = x.1 }) (λ _. refl)

-- the number of stripes of a map
abbrev pub stripes_of : TableId → ℕ
stripes_of map = map.slots

-- what always holds of a pass that serves this map, with these views at rest: it has one view, which holds no stripe,
-- carries its least number, and knows a legal history of each stripe
pub record IsPass (map : TableId) (views : List (View GhostAction)) : Type 0 where
  pub one : views ≡ view_of views ∷ []
  pub idle : IsIdle (view_of views)
  pub some : Carries (view_of views) (least (view_of views).numbers)
  pub sound : Sound (stripes_of map) (view_of views)
  pub wide : length (view_of views).parts ≡ stripes_of map

-- the pass serves the same map, opened with the same number of passes
pub record ServesSameMap (old new : PassState) : Type 0 where
  pub map : new.map ≡ old.map
  pub passes : new.view.passes ≡ old.view.passes
