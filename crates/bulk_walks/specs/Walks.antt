-- The reply of a walk with a team, and what it adds to the passes' knowledge. Java SE 17: ConcurrentHashMap.search, forEach,
-- mappingCount and replaceAll, but the function is a program here. Which worker takes which stripe is this map's profile.
use Rattle.std.specs.Prelude.{◌≡◌, ℕ, zero, suc, ◌+◌, ◌%◌, ◌<◌, ◌⊎◌, List, [], ◌∷◌, ◌++◌, Option, Result, MatchResult, length, slice_index_or, sum_by, T}
use Rattle.std.specs.FinMap as finmap
use Rattle.stripe_rule.specs.declared.view.Event.{Event}
use Rattle.stripe_rule.specs.declared.view.View.{View}
use Rattle.stripe_rule.specs.Gains.{Gains, Keeps, seen_of}
use Rattle.bpf_model.specs.declared.memory.NoMemory.{NoMemory}
use Rattle.verifier.specs.Checked.{Checked}
use Rattle.bins.specs.declared.counts.Counts.{Counts}
use Rattle.bins.specs.Table.{Entry, Table, by_bytes}
use Rattle.bin_stripes.specs.declared.ghost_action.GhostAction.{GhostAction}
use Rattle.bin_stripes.specs.Actions.{Action, scanned}
use Rattle.bin_stripes.specs.Histories.{own_events, Leaves}
use Rattle.bin_stripes.specs.Invoked.{AreReplacements}
use Rattle.bin_stripes.specs.Passes.{PassState}
use Rattle.atomic_methods.specs.declared.walk_reply.WalkKind.{WalkKind}
use Rattle.atomic_methods.specs.declared.walk_reply.WalkReply.{WalkReply}
use Rattle.atomic_methods.specs.Replies.{IsReply, IsCount}

-- the events of one stripe
abbrev pub Events : Type 0
Events = List (Event GhostAction)

-- the sum of f over the numbers below n
abbrev pub sum_below : ℕ → (ℕ → ℕ) → ℕ
sum_below zero f = 0
sum_below (suc n) f = sum_below n f + f n

-- of n stripes, the stripe k is in the turn of this worker, which takes worker, worker + workers, and so on
abbrev pub IsTurn : ℕ → ℕ → ℕ → ℕ → Type 0
IsTurn n workers worker k = (k < n) × (k % workers ≡ worker)

-- on each stripe in its turn the pass made such events, after all that it had seen and others' events; nothing else is
-- new to it. `Made k v found more`: a pass that knew v made the events `more` on the stripe k after `found`
pub record Walked (n workers worker : ℕ) (Made : ℕ → View GhostAction → Events → Events → Type 0) (v w : View GhostAction) : Type 0 where
  pub numbers : w.numbers ≡ v.numbers
  pub passes : w.passes ≡ v.passes
  pub turns : (k : ℕ) → IsTurn n workers worker k
      → (more : Events) × ((gains : Gains v w k more) × Made k v (seen_of v k ++ gains.between) more)
  pub others : (k : ℕ) → ¬ IsTurn n workers worker k → Keeps v w k

-- each pass has walked over the stripes of its turns; the passes are in their order
pub record AllWalked (n : ℕ) (Made : ℕ → View GhostAction → Events → Events → Type 0) (before after : List PassState) : Type 0 where
  pub order : length after ≡ length before
  pub each : (j : ℕ) (d : PassState) → j < length before
      → Walked n (length before) j Made (slice_index_or before j d).view (slice_index_or after j d).view

-- the events made on the stripe k are as the k-th says
abbrev pub Each : {X : Type 0} → (ℕ → X → View GhostAction → Events → Events → Type 0) → (ℕ → X) → ℕ → View GhostAction → Events → Events → Type 0
Each Of xs k = Of k (xs k)

-- one scan, which found these entries
abbrev pub IsScan : ℕ → List Entry → View GhostAction → Events → Events → Type 0
IsScan k entries v found more = more ≡ own_events v (scanned entries ∷ [])

-- one scan, or none
abbrev pub MayScan : ℕ → View GhostAction → Events → Events → Type 0
MayScan k v found more = (more ≡ []) ⊎ ((entries : List Entry) × IsScan k entries v found more)

-- one replacement for each key of the table that the found events leave, with these counts of each kind
pub record IsReplaced (n : ℕ) (checked : Checked) (arg : Option (List ℕ)) (k : ℕ) (counts : Counts) (v : View GhostAction)
    (found more : Events) : Type 0 where
  pub actions : List Action
  pub events : more ≡ own_events v actions
  pub table : Table
  pub left : Leaves n k found table
  pub are : AreReplacements checked arg (finmap.entries table) actions counts

-- the entries of all scans, in key order
pub record IsInOrder (n : ℕ) (scans : ℕ → List Entry) (entries : List Entry) : Type 0 where
  -- the keys rise
  pub order : T (finmap.is_sorted by_bytes entries)
  -- each entry is there as often as in the scans: whatever weights you give to entries, the sums agree
  pub all : (weight : Entry → ℕ) → sum_by weight entries ≡ sum_below n (λ k. sum_by weight (scans k))

-- a walk that runs a program: one scan of each stripe, and the reply is that of all entries in key order. The reply's
-- part mentions neither the number of workers nor the threshold
pub record IsWalk (kind : WalkKind) (n : ℕ) (checked : Checked) (arg : Option (List ℕ)) (before after : List PassState)
    (reply : WalkReply) : Type 0 where
  pub scans : ℕ → List Entry
  pub walked : AllWalked n (Each IsScan scans) before after
  pub entries : List Entry
  pub in_order : IsInOrder n scans entries
  pub replies : IsReply kind checked arg entries reply

-- the answer of a team that makes this walk: that reply, or `NoMemory`, and then each stripe has its scan or none
abbrev pub Walks : WalkKind → ℕ → Checked → Option (List ℕ) → List PassState → List PassState → Result WalkReply NoMemory → Type 0
Walks kind n checked arg before after result =
    MatchResult result (λ reply. IsWalk kind n checked arg before after reply) (λ _. AllWalked n MayScan before after)

-- a walk that counts: one scan of each stripe, and the number of entries that they found
pub record CountsAll (n : ℕ) (before after : List PassState) (reply : WalkReply) : Type 0 where
  pub scans : ℕ → List Entry
  pub walked : AllWalked n (Each IsScan scans) before after
  pub counted : IsCount (sum_below n (λ k. length (scans k))) reply

-- a walk that replaces: each stripe's keys once, and the sums of the counts
pub record ReplacesAll (n : ℕ) (checked : Checked) (arg : Option (List ℕ)) (before after : List PassState) (reply : WalkReply)
    : Type 0 where
  pub counts : ℕ → Counts
  pub walked : AllWalked n (Each (IsReplaced n checked arg) counts) before after
  pub items : reply.items ≡ []
  pub scanned : reply.counts.scanned ≡ sum_below n (λ k. (counts k).scanned)
  pub given : reply.counts.given ≡ sum_below n (λ k. (counts k).given)
  pub unfit : reply.counts.unfit ≡ sum_below n (λ k. (counts k).unfit)

-- the scans of two walks found the same on each of n stripes
abbrev pub FindSame : ℕ → (ℕ → List Entry) → (ℕ → List Entry) → Type 0
FindSame n scans others = (k : ℕ) → k < n → scans k ≡ others k

-- replies to two walks of one kind, with one program and one argument, whose scans found the same; by any two teams
pub record WalksAlike (one other : WalkReply) : Type 0 where
  pub kind : WalkKind
  pub n : ℕ
  pub checked : Checked
  pub arg : Option (List ℕ)
  pub before : List PassState
  pub after : List PassState
  pub walk : IsWalk kind n checked arg before after one
  pub other_before : List PassState
  pub other_after : List PassState
  pub other_walk : IsWalk kind n checked arg other_before other_after other
  pub same : FindSame n walk.scans other_walk.scans

-- replies to two counts whose scans found the same; by any two teams
pub record CountsAlike (one other : WalkReply) : Type 0 where
  pub n : ℕ
  pub before : List PassState
  pub after : List PassState
  pub count : CountsAll n before after one
  pub other_before : List PassState
  pub other_after : List PassState
  pub other_count : CountsAll n other_before other_after other
  pub same : FindSame n count.scans other_count.scans
