-- What a worker keeps of the program's answers on its entries.
use Rattle.std.specs.Prelude.{◌≡◌, ℕ, ⊤, Bool, true, false, List, [], ◌∷◌, ◌++◌, ◌+◌, Option, Some, None, Result, Ok, Err, length, map, sum_by, count_by, if◌then◌else◌}
use Rattle.std.specs.List.Sorted.{IsSortedBy}
use Rattle.std.specs.Ordering.{is_eq}
use Rattle.std.specs.declared.cmp.Ordering.TheVariants.{Less}
use Rattle.bpf_model.specs.declared.input.InputPart.{InputPart}
use Rattle.bpf_model.specs.declared.input.Input.{Input}
use Rattle.verifier.specs.Checked.{Checked}
use Rattle.bins.specs.Copies.{comes_before, WeighSame}
use Rattle.bins.specs.Entries.{entries_at}
use Rattle.bins.specs.Passes.{AreOutcomes}
use Rattle.bins.specs.Replacements.{Outcome, ComesTo, is_unfit}
use Rattle.bins.specs.Table.{Entry, by_bytes}
use Rattle.atomic_methods.specs.declared.walk_reply.WalkKind.{WalkKind}
use Rattle.atomic_methods.specs.declared.walk_reply.WalkKind.TheVariants.{Search, ForEach}
use Rattle.atomic_methods.specs.declared.walk_reply.WalkReply.{WalkReply}
use Rattle.atomic_methods.specs.Plans.{outcome_by}
use Rattle.atomic_methods.specs.Replies.{present, IsReply}
use Rattle.bulk_walks.specs.declared.answers.Answers.{Answers}
use Rattle.bulk_walks.specs.declared.part.Gathered.{Gathered}
use Rattle.bulk_walks.specs.Turns.{AreReplies}

-- 1 at the entries with this key
abbrev pub one_at : List ℕ → Entry → ℕ
one_at key entry = if is_eq (by_bytes key entry.0) then 1 else 0

-- the entry is one of those that weigh so, and no other has a lesser key
pub record IsLeastOf (weigh : (Entry → ℕ) → ℕ) (entry : Entry) : Type 0 where
  pub others : (Entry → ℕ) → ℕ
  pub all : (weight : Entry → ℕ) → weigh weight ≡ weight entry + others weight
  pub least : (key : List ℕ) → by_bytes key entry.0 ≡ Less → others (one_at key) ≡ 0

-- the one with the least key of those that weigh so, or nothing if there are none
abbrev pub IsFirst : ((Entry → ℕ) → ℕ) → List Entry → Type 0
IsFirst weigh [] = (weight : Entry → ℕ) → weigh weight ≡ 0
IsFirst weigh (entry ∷ []) = IsLeastOf weigh entry
IsFirst weigh (entry ∷ other ∷ entries) = ⊥

-- a walk keeps these items of all answers: search the one with the least key, forEach all of them, in an order
abbrev pub Keeps : WalkKind → List Entry → List Entry → List ℕ → Type 0
Keeps Search all items order = IsFirst (λ weight. sum_by weight all) items × (order ≡ [])
Keeps ForEach all items order = WeighSame (entries_at items order) all × IsSortedBy comes_before (entries_at items order)

-- what it keeps before its items are put in order
abbrev pub KeepsSome : WalkKind → List Entry → List Entry → Type 0
KeepsSome Search all items = IsFirst (λ weight. sum_by weight all) items
KeepsSome ForEach all items = items ≡ all

-- a worker's answers stand for the reply to a walk that gives all answers
pub record StandsFor (kind : WalkKind) (reply : WalkReply) (answers : Answers) : Type 0 where
  pub keeps : Keeps kind reply.items answers.items answers.order.items
  pub scanned : answers.scanned ≡ reply.counts.scanned
  pub unfit : answers.unfit ≡ reply.counts.unfit

-- that reply is the one to these entries
pub record IsAnswered (kind : WalkKind) (checked : Checked) (arg : Option (List ℕ)) (entries : List Entry) (answers : Answers) : Type 0 where
  pub reply : WalkReply
  pub is_reply : IsReply ForEach checked arg entries reply
  pub stands : StandsFor kind reply answers

-- each worker's answers stand for the reply at its position
abbrev pub StandForAll : WalkKind → List WalkReply → List Answers → Type 0
StandForAll kind [] [] = ⊤
StandForAll kind [] (answers ∷ all) = ⊥
StandForAll kind (reply ∷ replies) [] = ⊥
StandForAll kind (reply ∷ replies) (answers ∷ all) = StandsFor kind reply answers × StandForAll kind replies all

-- each worker's answers stand for the reply to its entries
pub record AreAnswered (kind : WalkKind) (checked : Checked) (arg : Option (List ℕ)) (lists : List (List Entry)) (all : List Answers) : Type 0 where
  pub replies : List WalkReply
  pub are_replies : AreReplies checked arg lists replies
  pub stand : StandForAll kind replies all

-- the items of each worker, as they came
abbrev pub lists_of_all : List Answers → List (List Entry)
lists_of_all all = map (λ answers. answers.items) all

-- and in their order
abbrev pub kept_of : Answers → List Entry
kept_of answers = entries_at answers.items answers.order.items

abbrev pub kept_in : List Answers → List (List Entry)
kept_in all = map kept_of all

-- the program's answers on all entries, in their order, and how many entries don't fit
pub record RunsOnAll (checked : Checked) (arg : Option (List ℕ)) (entries items : List Entry) (unfit : ℕ) : Type 0 where
  pub outcomes : List Outcome
  pub one_each : length outcomes ≡ length entries
  pub are_outcomes : AreOutcomes checked arg entries outcomes
  pub answers : items ≡ present entries outcomes
  pub unfit_is : unfit ≡ count_by is_unfit outcomes

-- the program ran on these entries, and what the walk keeps of its answers was added to the items
pub record AddsRuns (kind : WalkKind) (checked : Checked) (arg : Option (List ℕ)) (entries old new : List Entry) (unfit : ℕ) : Type 0 where
  pub more : List Entry
  pub runs : RunsOnAll checked arg entries more unfit
  pub kept : (all : List Entry) → KeepsSome kind all old → KeepsSome kind (all ++ more) new

-- what a worker has gathered once the program has run on these entries
pub record IsGathered (kind : WalkKind) (checked : Checked) (arg : Option (List ℕ)) (entries : List Entry) (gathered : Gathered) : Type 0 where
  pub all : List Entry
  pub runs : RunsOnAll checked arg entries all gathered.unfit
  pub scanned : gathered.scanned ≡ length entries
  pub kept : KeepsSome kind all gathered.items

-- the one of them with the least key
pub record FindsFirst (checked : Checked) (arg : Option (List ℕ)) (entries items : List Entry) (unfit : ℕ) : Type 0 where
  pub all : List Entry
  pub runs : RunsOnAll checked arg entries all unfit
  pub first : IsFirst (λ weight. sum_by weight all) items

-- what a run that was offered an entry tells of the program's outcome: all of it if it was wanted, else whether the entry fits
abbrev pub Tells : Bool → Outcome → Result Bool InputPart → List ℕ → Type 0
Tells true outcome told bytes = outcome ≡ outcome_by told bytes
Tells false (Ok answer) told bytes = told ≡ Ok false
Tells false (Err part) told bytes = told ≡ Err part

pub record IsOffered (checked : Checked) (input : Input) (wanted : Bool) (told : Result Bool InputPart) (bytes : List ℕ) : Type 0 where
  pub outcome : Outcome
  pub comes_to : ComesTo checked input outcome
  pub tells : Tells wanted outcome told bytes

-- a key with an answer, or nothing
abbrev pub item_of : Option (List ℕ) → List ℕ → List Entry
item_of None answer = []
item_of (Some key) answer = (key, answer) ∷ []
