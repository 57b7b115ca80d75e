-- What each worker of a walk has once it has scanned its stripes.
use Rattle.std.specs.Prelude.{◌≡◌, ◌<◌, ◌+◌, ℕ, ⊤, List, [], ◌∷◌, ◌++◌, Option, Result, IfOk, OnOk, length, slice_index_or}
use Rattle.stripe_rule.specs.declared.view.View.{View}
use Rattle.verifier.specs.Checked.{Checked}
use Rattle.bpf_model.specs.declared.memory.NoMemory.{NoMemory}
use Rattle.bins.specs.Table.{Entry}
use Rattle.bin_stripes.specs.declared.ghost_action.GhostAction.{GhostAction}
use Rattle.bin_stripes.specs.Passes.{PassState}
use Rattle.atomic_methods.specs.declared.walk_reply.WalkKind.{WalkKind}
use Rattle.bulk_walks.specs.declared.finds.Finds.{Finds}
use Rattle.bulk_walks.specs.declared.part.Part.{Part}
use Rattle.bulk_walks.specs.declared.part.Gathered.{Gathered}
use Rattle.bulk_walks.specs.Walks.{Walked, MayScan}
use Rattle.bulk_walks.specs.Turns.{WorkerFinds, FindsAll}
use Rattle.bulk_walks.specs.Kept.{IsGathered}

-- the program ran on the first of the waiting entries, or on none
pub record RunsSome (kind : WalkKind) (checked : Checked) (arg : Option (List ℕ)) (gathered : Gathered) (waiting : List Entry)
    (new : Gathered) (left : List Entry) : Type 0 where
  pub runs : (early : List Entry) → IsGathered kind checked arg early gathered
      → (later : List Entry) × (IsGathered kind checked arg later new × (early ++ waiting ≡ later ++ left))
  pub many : new.scanned + length left ≡ gathered.scanned + length waiting

-- a worker was shown the entries of a stripe: the program ran on the first of those that it then has, or on none; or memory was
-- refused
pub record SeesStripe (old : Finds) (entries : List Entry) (new : Finds) : Type 0 where
  pub walk : new.walk.now ≡ old.walk.now
  pub runs : OnOk new.outcome (RunsSome old.walk.now.kind old.walk.now.program.now old.walk.now.arg.now old.gathered (old.waiting ++ entries)
      new.gathered new.waiting)

-- a worker found the entries of its stripes; the program has run on the early ones, and the others wait
pub record WorkerRuns (kind : WalkKind) (checked : Checked) (arg : Option (List ℕ)) (n workers worker : ℕ) (v w : View GhostAction)
    (part : Part) : Type 0 where
  pub early : List Entry
  pub finds : WorkerFinds n n workers worker v w (early ++ part.waiting)
  pub gathered : IsGathered kind checked arg early part.gathered

-- and so did each worker, or memory was refused to it
pub record EachRuns (kind : WalkKind) (checked : Checked) (arg : Option (List ℕ)) (n : ℕ) (before : List PassState)
    (rs : List (Result Part NoMemory)) (after : List PassState) : Type 0 where
  pub answers : length rs ≡ length before
  pub left : length after ≡ length before
  pub done : (i : ℕ) (d : PassState) (e : Result Part NoMemory) → i < length before
      → IfOk (slice_index_or rs i e) (λ part. WorkerRuns kind checked arg n (length before) i (slice_index_or before i d).view (slice_index_or after i d).view part)
  pub part : (i : ℕ) (d : PassState) → i < length before → Walked n (length before) i MayScan (slice_index_or before i d).view (slice_index_or after i d).view

-- the early entries of each worker, and then those that wait
abbrev pub lists_with : List (List Entry) → List Part → List (List Entry)
lists_with [] parts = []
lists_with (early ∷ earlies) [] = []
lists_with (early ∷ earlies) (part ∷ parts) = (early ++ part.waiting) ∷ lists_with earlies parts

-- each worker has gathered what the program answered on its early entries
abbrev pub AreGathered : WalkKind → Checked → Option (List ℕ) → List (List Entry) → List Part → Type 0
AreGathered kind checked arg [] [] = ⊤
AreGathered kind checked arg [] (part ∷ parts) = ⊥
AreGathered kind checked arg (early ∷ earlies) [] = ⊥
AreGathered kind checked arg (early ∷ earlies) (part ∷ parts) =
    IsGathered kind checked arg early part.gathered × AreGathered kind checked arg earlies parts

-- all stripes were scanned, and the program has run on the early entries of each worker
pub record TeamRuns (kind : WalkKind) (checked : Checked) (arg : Option (List ℕ)) (n : ℕ) (before after : List PassState)
    (parts : List Part) : Type 0 where
  pub earlies : List (List Entry)
  pub finds : FindsAll n before after (lists_with earlies parts)
  pub gathered : AreGathered kind checked arg earlies parts
