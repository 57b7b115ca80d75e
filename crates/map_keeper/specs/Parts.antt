-- How far one transaction of a save comes, as the functions see it that make it.
use Rattle.std.specs.Prelude.{◌≡◌, ◌⊎◌, ℕ, ◌<◌, ◌≤◌, Bool, IsTrue, ⊤}
use Rattle.sqlite.specs.Held.{Held}
use Rattle.sqlite.specs.State.{State}
use Rattle.sqlite.specs.Tree.{Trees}
use Rattle.stripe_rule.specs.declared.view.View.{View}
use Rattle.bin_stripes.specs.declared.ghost_action.GhostAction.{GhostAction}
use Rattle.map_keeper.specs.declared.taker.Reached.{Reached}
use Rattle.map_keeper.specs.declared.taker.Reached.TheVariants.{Stripe, End}
use Rattle.map_keeper.specs.Written.{WouldCommit}

-- the stripes below it are saved
abbrev pub end_of : ℕ → Reached → ℕ
end_of stripes (Stripe next) = next
end_of stripes (End in_file) = stripes

-- it came to the end; or it took one stripe at least, stripes are left, and the save may be in parts
abbrev pub IsFurther : Bool → ℕ → ℕ → Reached → Type 0
IsFurther parts stripes start (Stripe next) = (start < next) × (next < stripes) × IsTrue parts
IsFurther parts stripes start (End in_file) = ⊤

module _ {S : Type 0} (shown : Held S → State) where
  -- what one transaction would leave: of all the stripes left, if the save may not be in parts
  pub record WouldStop (parts anew : Bool) (old new : View GhostAction) (stripes start : ℕ) (from : Held S) (trees : Trees) : Type 0 where
    pub end : ℕ
    pub within : end ≤ stripes
    pub whole : IsTrue parts ⊎ (end ≡ stripes)
    pub next : WouldCommit shown anew old new stripes start end from trees
