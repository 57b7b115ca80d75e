-- What a pass knows of each stripe, and what a call adds to it.
use Rattle.std.specs.Prelude.{◌≡◌, ◌≢◌, ℕ, ◌<◌, Bool, true, false, List, [], ◌∷◌, ◌++◌, slice_index_or, min}
use Rattle.stripe_rule.specs.declared.view.Event.{Event}
use Rattle.stripe_rule.specs.declared.view.Part.{Part}
use Rattle.stripe_rule.specs.declared.view.View.{View}
use Rattle.stripe_rule.specs.History.{has, made_by, AreUnder, AreOthers, AreBelow, StartsWith, IsLegal}

-- the least of the numbers, if there is one
abbrev pub least_of : ℕ → List ℕ → ℕ
least_of m [] = m
least_of m (n ∷ ns) = least_of (min m n) ns

abbrev pub least : List ℕ → ℕ
least [] = 0
least (n ∷ ns) = least_of n ns

module _ {D : Type 0} where
  -- nothing is known
  abbrev pub blank : Part D
  blank = record { seen = []; mine = []; told = []; held = false }

  -- what is known of the stripe k
  abbrev pub part_of : View D → ℕ → Part D
  part_of v k = slice_index_or v.parts k blank

  -- the events of the stripe k that the pass knows of
  abbrev pub seen_of : View D → ℕ → List (Event D)
  seen_of v k = (part_of v k).seen

  -- the events that it made there; those with the number q are `made_by q (mine_of v k)`
  abbrev pub mine_of : View D → ℕ → List (Event D)
  mine_of v k = (part_of v k).mine

  -- the events there that it was told
  abbrev pub told_of : View D → ℕ → List (Event D)
  told_of v k = (part_of v k).told

  abbrev pub held_at : View D → ℕ → Bool
  held_at v k = (part_of v k).held

  -- it holds no stripe
  abbrev pub IsIdle : View D → Type 0
  IsIdle v = (k : ℕ) → held_at v k ≡ false

  -- it carries the number q
  abbrev pub Carries : View D → ℕ → Type 0
  Carries v q = has q v.numbers ≡ true

  -- its event of this action, with its least number
  abbrev pub own_event : View D → D → Event D
  own_event v action = record { by = least v.numbers; action = action }

  -- for the stripe k, after all that it had seen, it has others' events and then these of its own
  pub record Gains (v w : View D) (k : ℕ) (more : List (Event D)) : Type 0 where
    pub between : List (Event D)
    pub others : AreOthers v.numbers between
    pub seen : seen_of w k ≡ (seen_of v k ++ between) ++ more
    pub mine : mine_of w k ≡ mine_of v k ++ more

  -- it knows of the stripe k what it knew before
  pub record Keeps (v w : View D) (k : ℕ) : Type 0 where
    pub seen : seen_of w k ≡ seen_of v k
    pub mine : mine_of w k ≡ mine_of v k

  -- it made these events on the stripe k, and knows nothing new of the others
  pub record Adds (v : View D) (k : ℕ) (more : List (Event D)) (w : View D) : Type 0 where
    pub numbers : w.numbers ≡ v.numbers
    pub here : Gains v w k more
    pub elsewhere : (j : ℕ) → j ≢ k → Keeps v w j

  -- it was told all that the other has seen: it may have others' events after what it had seen, and it begins with what
  -- the other has seen
  pub record Hears (stripes : ℕ) (from v w : View D) : Type 0 where
    pub numbers : w.numbers ≡ v.numbers
    pub gains : (k : ℕ) → k < stripes → Gains v w k []
    pub begins : (k : ℕ) → k < stripes → StartsWith (seen_of w k) (seen_of from k)

  -- it carries what both carried, has made what both had made, and begins with all that each has seen
  pub record IsJoined (stripes : ℕ) (v other w : View D) : Type 0 where
    pub numbers : w.numbers ≡ v.numbers ++ other.numbers
    pub mine : (k : ℕ) → k < stripes → mine_of w k ≡ mine_of v k ++ mine_of other k
    pub begins : (k : ℕ) → k < stripes → StartsWith (seen_of w k) (seen_of v k)
    pub begins_other : (k : ℕ) → k < stripes → StartsWith (seen_of w k) (seen_of other k)

-- `does k table action new`: doing the action on the table of the stripe k leaves the new one, and its answer is the recorded
-- one
module _ {D T : Type 0} (does : ℕ → T → D → T → Type 0) (empty : T) where
  -- what always holds of a pass: of each stripe it has seen a legal list of events with numbers of opened passes; those
  -- with its own numbers are, in order, the ones that it made
  pub record IsSound (v : View D) : Type 0 where
    pub legal : (k : ℕ) → IsLegal (does k) empty (seen_of v k)
    pub below : (k : ℕ) → AreBelow v.passes (seen_of v k)
    pub under : (k : ℕ) → AreUnder v.numbers (mine_of v k)
    pub own : (k q : ℕ) → Carries v q → made_by q (seen_of v k) ≡ made_by q (mine_of v k)
