-- A release of a stripe that adds some events, about which a fact is known.
use Rattle.std.specs.Prelude.{◌≡◌, ℕ, Bool, List, Option}
use Rattle.atomic_table.specs.Table.{Me, Step}
use Rattle.stripe_rule.specs.declared.view.View.{View}
use Rattle.stripe_rule.specs.Words.{word_at}
use Rattle.stripe_rule.specs.Steps.{Looks, Releases, took as takes_or_looks}
use Rattle.bins.specs.Table.{Table}
use Rattle.bin_stripes.specs.declared.ghost_action.GhostAction.{GhostAction}
use Rattle.bin_stripes.specs.Actions.{Action}
use Rattle.bin_stripes.specs.Histories.{empty, does, own_events}
use Rattle.bin_stripes.specs.Saves.{keeps}

module _ {S : Type 0} where
  -- a load of a stripe's word, in the terms of a table with this many slots
  abbrev pub stripe_looked : Step S → Me S (View GhostAction) → ℕ → Me S (View GhostAction) → Type 0
  stripe_looked st me found me' = (k : ℕ) → st.word ≡ word_at k → Looks (does st.slots) empty k me me'

  -- the release adds actions for which `may` holds
  pub record Lets (may : List Action → Type 0) (stripes k : ℕ) (me me' : Me S (View GhostAction)) : Type 0 where
    pub actions : List Action
    pub may_be : may actions
    pub releases : Releases (does stripes) empty (own_events me.0 actions) k me me'

  -- the swap of the word to 0, in the terms of a table with this many slots
  abbrev pub stripe_released : (List Action → Type 0) → Step S → Me S (View GhostAction) → ℕ → Me S (View GhostAction) → Type 0
  stripe_released may st me found me' = (k : ℕ) → st.word ≡ word_at k → Lets may st.slots k me me'

-- the compare-exchange of the word from 0 to 1, in the terms of a table with this many slots
abbrev pub stripe_took : {B : Type 0} → (B → Table) → (B → List ℕ → Bool) → Step (Option B) → Me (Option B) (View GhostAction) → ℕ → Me (Option B) (View GhostAction) → Type 0
stripe_took content noted st me found me' = takes_or_looks (does st.slots) empty content (keeps content noted) st me found me'
