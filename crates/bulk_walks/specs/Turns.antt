-- The answer of each worker of a walk.
use Rattle.std.specs.Prelude.{◌≡◌, ◌<◌, ◌≤◌, ◌^◌, ◌+◌, ◌%◌, ◌==◌, if◌then◌else◌, ℕ, ⊤, List, [], ◌∷◌, Option, length, map, sum_by, slice_index_or}
use Rattle.stripe_rule.specs.declared.view.View.{View}
use Rattle.verifier.specs.Checked.{Checked}
use Rattle.bins.specs.declared.counts.Counts.{Counts}
use Rattle.bins.specs.Table.{Entry}
use Rattle.bin_stripes.specs.declared.ghost_action.GhostAction.{GhostAction}
use Rattle.bin_stripes.specs.Invoked.{AreOf}
use Rattle.bin_stripes.specs.Passes.{PassState}
use Rattle.atomic_methods.specs.declared.walk_reply.WalkKind.TheVariants.{ForEach}
use Rattle.atomic_methods.specs.declared.walk_reply.WalkReply.{WalkReply}
use Rattle.atomic_methods.specs.Replies.{IsReply}
use Rattle.bulk_walks.specs.Walks.{IsTurn, Walked, AllWalked, Each, IsScan, IsReplaced, sum_below}

-- the sum of f over the stripes below n whose turn is this worker's
abbrev pub turn_sum : ℕ → ℕ → (ℕ → ℕ) → ℕ → ℕ
turn_sum workers worker f n = sum_below n (λ k. if k % workers == worker then f k else 0)

-- the work of a worker that counts its own among the first n stripes
pub record CountsTurns (n workers worker : ℕ) (v w : View GhostAction) (count : ℕ) : Type 0 where
  pub scans : ℕ → List Entry
  pub walked : Walked n workers worker (Each IsScan scans) v w
  pub count_is : count ≡ turn_sum workers worker (λ k. length (scans k)) n
  pub bounded : count ≤ turn_sum workers worker (λ _. 2 ^ 57) n

-- and the work of each worker
pub record EachCounts (n : ℕ) (before : List PassState) (counts : List ℕ) (after : List PassState) : Type 0 where
  pub answers : length counts ≡ length before
  pub left : length after ≡ length before
  pub each : (i : ℕ) (d : PassState) (e : ℕ) → i < length before → CountsTurns n (length before) i (slice_index_or before i d).view (slice_index_or after i d).view (slice_index_or counts i e)

-- a worker's finds on the first n of all stripes
pub record WorkerFinds (all n workers worker : ℕ) (v w : View GhostAction) (found : List Entry) : Type 0 where
  pub scans : ℕ → List Entry
  pub walked : Walked n workers worker (Each IsScan scans) v w
  pub stripes : (k : ℕ) → IsTurn n workers worker k → AreOf all k (scans k)
  pub bounded : (k : ℕ) → IsTurn n workers worker k → length (scans k) < 2 ^ 57
  pub sum : (weight : Entry → ℕ) → sum_by weight found ≡ turn_sum workers worker (λ k. sum_by weight (scans k)) n

-- all stripes were scanned; these lists have each entry as often as the scans
pub record FindsAll (n : ℕ) (before after : List PassState) (lists : List (List Entry)) : Type 0 where
  pub scans : ℕ → List Entry
  pub walked : AllWalked n (Each IsScan scans) before after
  pub stripes : (k : ℕ) → k < n → AreOf n k (scans k)
  pub bounded : (k : ℕ) → k < n → length (scans k) < 2 ^ 57
  pub sum : (weight : Entry → ℕ) → sum_by (λ entries. sum_by weight entries) lists ≡ sum_below n (λ k. sum_by weight (scans k))

-- the items of each reply
abbrev pub items_in : List WalkReply → List (List Entry)
items_in replies = map (λ reply. reply.items) replies

-- each reply is that to a walk over the entries at its position
abbrev pub AreReplies : Checked → Option (List ℕ) → List (List Entry) → List WalkReply → Type 0
AreReplies checked arg [] [] = ⊤
AreReplies checked arg [] (reply ∷ replies) = ⊥
AreReplies checked arg (entries ∷ lists) [] = ⊥
AreReplies checked arg (entries ∷ lists) (reply ∷ replies) = IsReply ForEach checked arg entries reply × AreReplies checked arg lists replies

-- the work of a worker that replaces the values among the first n of all stripes, and counts them
pub record ReplacesTurns (all : ℕ) (checked : Checked) (arg : Option (List ℕ)) (n workers worker : ℕ) (v w : View GhostAction)
    (total : Counts) : Type 0 where
  pub counts : ℕ → Counts
  pub walked : Walked n workers worker (Each (IsReplaced all checked arg) counts) v w
  pub scanned : total.scanned ≡ turn_sum workers worker (λ k. (counts k).scanned) n
  pub given : total.given ≡ turn_sum workers worker (λ k. (counts k).given) n
  pub unfit : total.unfit ≡ turn_sum workers worker (λ k. (counts k).unfit) n
  pub bounded_scanned : total.scanned ≤ turn_sum workers worker (λ _. 2 ^ 57) n
  pub bounded_given : total.given ≤ turn_sum workers worker (λ _. 2 ^ 57) n
  pub bounded_unfit : total.unfit ≤ turn_sum workers worker (λ _. 2 ^ 57) n

-- and the work of each worker
pub record EachReplaces (n : ℕ) (checked : Checked) (arg : Option (List ℕ)) (before : List PassState) (rs : List Counts) (after : List PassState) : Type 0 where
  pub answers : length rs ≡ length before
  pub left : length after ≡ length before
  pub each : (i : ℕ) (d : PassState) (e : Counts) → i < length before → ReplacesTurns n checked arg n (length before) i (slice_index_or before i d).view (slice_index_or after i d).view (slice_index_or rs i e)

-- the sums fit their type
pub record HasRoom (x y : Counts) : Type 0 where
  pub scanned : x.scanned + y.scanned < 2 ^ 64
  pub given : x.given + y.given < 2 ^ 64
  pub unfit : x.unfit + y.unfit < 2 ^ 64

-- each count is the sum of all
pub record AreSums (all : List Counts) (total : Counts) : Type 0 where
  pub scanned : total.scanned ≡ sum_by (λ c. c.scanned) all
  pub given : total.given ≡ sum_by (λ c. c.given) all
  pub unfit : total.unfit ≡ sum_by (λ c. c.unfit) all
