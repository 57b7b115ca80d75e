-- Lists of events: the numbers that made them, and the table that they leave.
use Rattle.std.specs.Prelude.{◌≡◌, ℕ, ◌<◌, Bool, true, false, ◌==◌, ◌||◌, cond, List, [], ◌∷◌, ◌++◌, All}
use Rattle.stripe_rule.specs.declared.view.Event.{Event}

-- q is one of the numbers
abbrev pub has : ℕ → List ℕ → Bool
has q [] = false
has q (n ∷ ns) = (q == n) || has q ns

module _ {D : Type 0} where
  -- the events that were made with the number q
  abbrev pub made_by : ℕ → List (Event D) → List (Event D)
  made_by q [] = []
  made_by q (e ∷ es) = cond (q == e.by) (e ∷ made_by q es) (made_by q es)

  -- each event has one of these numbers
  abbrev pub AreUnder : List ℕ → List (Event D) → Type 0
  AreUnder numbers es = All (λ e. has e.by numbers ≡ true) es

  -- no event has one of these numbers
  abbrev pub AreOthers : List ℕ → List (Event D) → Type 0
  AreOthers numbers es = All (λ e. has e.by numbers ≡ false) es

  -- each event has a number below n
  abbrev pub AreBelow : ℕ → List (Event D) → Type 0
  AreBelow n es = All (λ e. e.by < n) es

  -- the first list begins with the second
  abbrev pub StartsWith : List (Event D) → List (Event D) → Type 0
  StartsWith es first = (rest : List (Event D)) × (es ≡ first ++ rest)

-- `does table action new`: doing the action on the table leaves the new one, and its answer is the recorded one
module _ {D T : Type 0} (does : T → D → T → Type 0) where
  -- the events, made in turn on the table, leave the new one
  abbrev pub Replays : T → List (Event D) → T → Type 0
  Replays table [] new = new ≡ table
  Replays table (e ∷ es) new = (next : T) × (does table e.action next × Replays next es new)

  -- replayed from the empty table, each event has the answer that it records
  abbrev pub IsLegal : T → List (Event D) → Type 0
  IsLegal empty es = (left : T) × Replays empty es left
