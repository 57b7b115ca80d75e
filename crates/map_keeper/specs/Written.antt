-- What a save writes into its file: the steps that the rows ask for which it hands out.
use Rattle.std.specs.Prelude.{◌≡◌, ◌==◌, ◌||◌, ◌⊎◌, ℕ, zero, suc, ◌+◌, ◌<◌, ◌≤◌, Bool, if◌then◌else◌, List, [], ◌∷◌, ◌++◌, map, flat_map, All, IsTrue, true, false, ⊤}
use Rattle.sqlite.specs.Held.{Held}
use Rattle.sqlite.specs.State.{State, Shows}
use Rattle.sqlite.specs.Tree.{Trees}
use Rattle.bpf_model.specs.declared.input.Sizes.{Sizes}
use Rattle.kept_file.specs.Changes.{IsWithin, changes_bytes}
use Rattle.kept_file.specs.Steps.{Step, MakesStep, appending, clearing, noting_stripes, adding_script, adding_program}
use Rattle.stripe_rule.specs.declared.view.Event.{Event}
use Rattle.stripe_rule.specs.declared.view.View.{View}
use Rattle.stripe_rule.specs.Gains.{seen_of, mine_of}
use Rattle.noted_bins.specs.declared.taken.Taken.{Taken}
use Rattle.noted_bins.specs.Notes.{is_anew}
use Rattle.noted_bins.specs.Rows.{Row, values_of}
use Rattle.bin_stripes.specs.declared.ghost_action.GhostAction.{GhostAction}
use Rattle.bin_stripes.specs.Actions.{Action, saved}
use Rattle.map_keeper.specs.Saves.{IsWholeIn}

-- the step of one batch of rows
abbrev pub step_of : ℕ → List Row → Step
step_of k part = appending k (changes_bytes part)

-- what was handed out of a stripe in one hold of it: what that came to, and rows, in parts that each make a batch
pub record Round : Type 0 where
  pub taken : Taken
  pub parts : List (List Row)

-- each key and value of the round is as long as a file has them
abbrev pub IsFit : Round → Type 0
IsFit round = All (All IsWithin) round.parts

abbrev pub rows_of : List (List Row) → List Row
rows_of parts = flat_map (λ part. part) parts

-- the action of a pass that handed them out
abbrev pub action_of : Round → Action
action_of round = saved round.taken (values_of (rows_of round.parts))

-- the steps of a round: if rows before it count no more, what the file has of the stripe goes first
abbrev pub steps_of : ℕ → Round → List Step
steps_of k round = (if is_anew round.taken then clearing k ∷ [] else []) ++ map (step_of k) round.parts

-- .. of one round after the other
abbrev pub steps_in : ℕ → List Round → List Step
steps_in k [] = []
steps_in k (round ∷ rounds) = steps_of k round ++ steps_in k rounds

-- the actions of these events
abbrev pub actions_in : List (Event GhostAction) → List Action
actions_in events = map (λ (event : Event GhostAction). event.action.action) events

-- if all is taken anew, so is it by the first round
abbrev pub BeginsAnew : Bool → List Round → Type 0
BeginsAnew anew [] = ⊤
BeginsAnew anew (first ∷ more) = IsTrue anew → is_anew first.taken ≡ true

-- the pass made just these rounds on the stripe k since then, and knows others' events between them
pub record HandsOut (anew : Bool) (old new : View GhostAction) (k : ℕ) (rounds : List Round) : Type 0 where
  pub start : BeginsAnew anew rounds
  pub events : List (Event GhostAction)
  pub made : mine_of new k ≡ mine_of old k ++ events
  pub actions : actions_in events ≡ map action_of rounds
  pub more : List (Event GhostAction)
  pub seen : seen_of new k ≡ seen_of old k ++ more

-- .. and the last event that it has seen there is the last of these
pub record EndsWithOwn (anew : Bool) (old new : View GhostAction) (k : ℕ) (rounds : List Round) : Type 0 where
  pub handed : HandsOut anew old new k rounds
  pub earlier : List (Event GhostAction)
  pub between : List (Event GhostAction)
  pub last : Event GhostAction
  pub mine : handed.events ≡ earlier ++ last ∷ []
  pub seen : handed.more ≡ between ++ last ∷ []

-- since then the pass saved the stripe k, and the last event that it has seen there is one of this save's
abbrev pub IsSavedSince : Bool → View GhostAction → View GhostAction → ℕ → Type 0
IsSavedSince anew old new k = (rounds : List Round) × EndsWithOwn anew old new k rounds

-- a setting, a script or a program comes into the file, or the entries go of a stripe that a map of this many doesn't have
abbrev pub IsOther : ℕ → Step → Type 0
IsOther stripes step =
    ((k : ℕ) × (stripes ≤ k) × (step ≡ clearing k))
    ⊎ (((count : ℕ) × (step ≡ noting_stripes count))
    ⊎ (((text : List ℕ) × (step ≡ adding_script text))
    ⊎ ((at : ℕ) × (sizes : Sizes) × (bytes : List ℕ) × (step ≡ adding_program at sizes bytes))))

-- a map of this many stripes may be saved in several transactions: its file has none, or as many. Of another number a part could take a stripe out
-- of the file whose entries are in later stripes of the map
abbrev pub may_part : ℕ → ℕ → Bool
may_part had stripes = (had == 0) || (had == stripes)

-- a connection, in a transaction that has begun
abbrev pub begun : {S : Type 0} → Held S → Held S
begun held = record held { in_transaction = true }

-- what a connection over the store S shows is `shown`
module _ {S : Type 0} (shown : Held S → State) where
  -- these steps were made one after the other
  unfoldable pub MakesAll : List Step → Held S → Held S → Type 0
  MakesAll [] old new = new ≡ old
  MakesAll (step ∷ more) old new = (mid : Held S) × MakesStep shown step old mid × MakesAll more mid new

  -- the steps of these rows were made, of one part after the other
  pub record WritesRows (k : ℕ) (rows : List Row) (from to : Held S) : Type 0 where
    pub parts : List (List Row)
    pub within : All (All IsWithin) parts
    pub are : rows ≡ rows_of parts
    pub made : MakesAll (map (step_of k) parts) from to

  -- .. of the first of them; the others are in a batch that has these bytes and is not written yet
  pub record Pending (k : ℕ) (rows : List Row) (bytes : List ℕ) (from to : Held S) : Type 0 where
    pub parts : List (List Row)
    pub left : List Row
    pub within : All (All IsWithin) parts
    pub left_within : All IsWithin left
    pub are : rows ≡ rows_of parts ++ left
    pub bytes_are : bytes ≡ changes_bytes left
    pub made : MakesAll (map (step_of k) parts) from to

  -- the steps of all the rows were made; if rows before them count no more, what the file had of the stripe went first
  pub record WritesRound (k : ℕ) (anew : Bool) (rows : List Row) (from to : Held S) : Type 0 where
    pub mid : Held S
    pub start : MakesAll (if anew then clearing k ∷ [] else []) from mid
    pub rest : WritesRows k rows mid to

  -- the pass saved the stripe k, and the steps of just the rows that it handed out were made
  pub record SavesStripe (anew : Bool) (old new : View GhostAction) (k : ℕ) (from to : Held S) : Type 0 where
    pub rounds : List Round
    pub ends : EndsWithOwn anew old new k rounds
    pub fit : All IsFit rounds
    pub made : MakesAll (steps_in k rounds) from to

  -- .. this many stripes from `start` on, in their order
  unfoldable pub SavesFrom : Bool → View GhostAction → View GhostAction → ℕ → ℕ → Held S → Held S → Type 0
  SavesFrom anew old new start zero from to = to ≡ from
  SavesFrom anew old new start (suc many) from to = (mid : Held S) × SavesFrom anew old new start many from mid × SavesStripe anew old new (start + many) mid to

  -- .. those from `start` up to `end`, which is not among them
  pub record SavesBetween (anew : Bool) (old new : View GhostAction) (start end : ℕ) (from to : Held S) : Type 0 where
    pub many : ℕ
    pub are : start + many ≡ end
    pub saved : SavesFrom anew old new start many from to

  -- steps were made that no entry of a stripe of the map has to do with
  pub record WritesOthers (stripes : ℕ) (from to : Held S) : Type 0 where
    pub others : List Step
    pub are : All (IsOther stripes) others
    pub made : MakesAll others from to

  -- the stripes from `start` up to `end` of a map of this many were saved, and then such steps were made. What was handed out of each of
  -- these stripes by then is what its events leave
  pub record WritesPart (anew : Bool) (old new : View GhostAction) (stripes start end : ℕ) (from to : Held S) : Type 0 where
    pub mid : Held S
    pub saved : SavesBetween anew old new start end from mid
    pub whole : (k : ℕ) → start ≤ k → k < end → IsWholeIn stripes new k
    pub rest : WritesOthers stripes mid to

  -- one transaction made just that, and was committed
  pub record SavesPart (anew : Bool) (old new : View GhostAction) (stripes start end : ℕ) (from to : Held S) : Type 0 where
    pub last : Held S
    pub wrote : WritesPart anew old new stripes start end (begun from) last
    pub committed : Shows (shown last) (shown to) (shown last).now (shown last).now false

  -- so many such transactions, each from where the one before it ended, saved the stripes below `end`
  unfoldable pub SavesParts : Bool → View GhostAction → View GhostAction → ℕ → ℕ → ℕ → Held S → Held S → Type 0
  SavesParts anew old new stripes zero end from to = (end ≡ 0) × (to ≡ from)
  SavesParts anew old new stripes (suc parts) end from to = (mid : Held S) × (start : ℕ) × SavesParts anew old new stripes parts start from mid × SavesPart anew old new stripes start end mid to

  -- one or more of them saved all stripes of a map of so many
  abbrev pub SavesMap : Bool → View GhostAction → View GhostAction → ℕ → Held S → Held S → Type 0
  SavesMap anew old new stripes from to = (earlier : ℕ) × SavesParts anew old new stripes (suc earlier) stripes from to

  -- what one would leave if it is committed
  pub record WouldCommit (anew : Bool) (old new : View GhostAction) (stripes start end : ℕ) (from : Held S) (trees : Trees) : Type 0 where
    pub last : Held S
    pub wrote : WritesPart anew old new stripes start end (begun from) last
    pub are : trees ≡ (shown last).now.trees

  -- .. after earlier ones, if any
  pub record WouldSave (anew : Bool) (old new : View GhostAction) (stripes : ℕ) (from : Held S) (trees : Trees) : Type 0 where
    pub earlier : ℕ
    pub start : ℕ
    pub mid : Held S
    pub saved : SavesParts anew old new stripes earlier start from mid
    pub end : ℕ
    pub within : end ≤ stripes
    pub next : WouldCommit anew old new stripes start end mid trees
