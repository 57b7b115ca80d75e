-- A seat of the table at one stripe: at rest, holding the stripe, and after a call.
use Rattle.std.specs.Prelude.{◌≡◌, ℕ, ◌≤◌, Bool, true, List, [], ◌∷◌, ◌++◌, length, Option, Some}
use Rattle.std.specs.FinMap as finmap
use Rattle.atomic_table.specs.Seated.{TableId}
use Rattle.atomic_table.specs.Table.{Me}
use Rattle.stripe_rule.specs.declared.view.View.{View}
use Rattle.stripe_rule.specs.Words.{words_of}
use Rattle.stripe_rule.specs.Gains.{least, Carries, IsIdle, held_at, seen_of, Adds}
use Rattle.verifier.specs.Checked.{Checked}
use Rattle.bins.specs.declared.counts.Counts.{Counts}
use Rattle.bins.specs.Table.{Entry, Table}
use Rattle.atomic_methods.specs.Hashes.{IsStripeCount}
use Rattle.bin_stripes.specs.declared.ghost_action.GhostAction.{GhostAction}
use Rattle.bin_stripes.specs.declared.rule.Shape.{Shape}
use Rattle.atomic_methods.specs.Invocations.{Invocation}
use Rattle.atomic_methods.specs.Methods.{WouldAdd}
use Rattle.bin_stripes.specs.Actions.{Action, scanned}
use Rattle.bin_stripes.specs.Histories.{empty, own_events, Leaves, Sound}
use Rattle.bin_stripes.specs.Saves.{LeavesBins}
use Rattle.bin_stripes.specs.Invoked.{AreOf, AreReplacements}

-- the table has words and a slot for each stripe, and not too many stripes
pub record IsLaid (id : TableId) (shape : Shape) : Type 0 where
  pub words : id.words ≡ words_of id.slots
  pub bounded : id.slots ≤ 64
  pub stripes : shape.stripes ≡ id.slots

-- what always holds of a map's table
pub record IsMap (id : TableId) (shape : Shape) : Type 0 where
  pub laid : IsLaid id shape
  pub count : IsStripeCount id.slots

module _ {B : Type 0} where
  -- the seat holds nothing, and carries its least number
  pub record Rests (me : Me (Option B) (View GhostAction)) : Type 0 where
    pub idle : IsIdle me.0
    pub some : Carries me.0 (least me.0.numbers)
    pub none_out : me.1 ≡ []

  -- after all that it had seen of the stripe k, the seat saw others' events and made these actions, and rests
  pub record Settles (stripes k : ℕ) (me : Me (Option B) (View GhostAction)) (actions : List Action)
      (me' : Me (Option B) (View GhostAction)) : Type 0 where
    pub adds : Adds me.0 k (own_events me.0 actions) me'.0
    pub passes : me'.0.passes ≡ me.0.passes
    pub wide : length me'.0.parts ≡ length me.0.parts
    pub sound : Sound stripes me'.0
    pub rests : Rests me'

  -- a scan of the stripe k found these entries
  pub record SeatFinds (stripes k : ℕ) (me : Me (Option B) (View GhostAction)) (entries : List Entry)
      (me' : Me (Option B) (View GhostAction)) : Type 0 where
    pub settles : Settles stripes k me (scanned entries ∷ []) me'
    pub are : AreOf stripes k entries

  -- the value of each key of the stripe k was replaced once, in key order
  pub record SeatReplaces (stripes k : ℕ) (me : Me (Option B) (View GhostAction)) (program : Checked) (arg : Option (List ℕ))
      (counts : Counts) (me' : Me (Option B) (View GhostAction)) : Type 0 where
    pub actions : List Action
    pub settles : Settles stripes k me actions me'
    pub table : Table
    pub found : Leaves stripes k (seen_of me.0 k ++ settles.adds.here.between) table
    pub are : AreReplacements program arg (finmap.entries table) actions counts

  -- the seat holds the stripe k; its bins are out with the seat and are those that its events leave, all of which the seat
  -- has seen
  pub record SeatHolds (content : B → Table) (noted : B → List ℕ → Bool) (stripes k : ℕ) (me : Me (Option B) (View GhostAction)) : Type 0 where
    pub held : held_at me.0 k ≡ true
    pub some : Carries me.0 (least me.0.numbers)
    pub bins : B
    pub others : List (ℕ × Option B)
    pub out : me.1 ≡ (k, Some bins) ∷ others
    pub left : LeavesBins content noted stripes k (seen_of me.0 k) bins

  -- the events that the seat has seen of the stripe k leave a table to which the invocation would add its key
  pub record SeatRefuses (stripes k : ℕ) (me : Me (Option B) (View GhostAction)) (invocation : Invocation) : Type 0 where
    pub table : Table
    pub left : Leaves stripes k (seen_of me.0 k) table
    pub adds : WouldAdd table invocation

-- bins without entries
abbrev pub IsEmptyBins : {B : Type 0} → (B → Table) → Option B → Type 0
IsEmptyBins {B} content slot = (bins : B) × ((slot ≡ Some bins) × (content bins ≡ empty))
