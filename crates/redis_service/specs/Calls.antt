-- Single calls that a command makes at a time, and what their replies tell.
use Rattle.std.specs.Prelude.{◌≡◌, ◌⊎◌, ℕ, Bool, false, List, [], ◌∷◌, Option, Some, None, Result, MatchResult}
use Rattle.bpf_model.specs.declared.memory.NoMemory.{NoMemory}
use Rattle.atomic_methods.specs.declared.reply.Reply.{Reply}
use Rattle.atomic_methods.specs.declared.reply.Reply.TheVariants.{Value, Done}
use Rattle.atomic_methods.specs.Invocations.{Invocation, on_key, get, remove}
use Rattle.atomic_methods.specs.Plans.{reply_by}
use Rattle.timed_bins.specs.declared.timing.DeadlineChange.{DeadlineChange}
use Rattle.timed_bins.specs.declared.timing.DeadlineChange.TheVariants.{Keep}
use Rattle.timed_bins.specs.declared.timing.TimedReply.{TimedReply}
use Rattle.bin_stripes.specs.Timed.{CallsAt, RefusesAt}
use Rattle.bin_stripes.specs.Passes.{PassState, ServesSameMap}
use Rattle.resp.specs.Replies.{value_bytes, nothing_bytes}
use Rattle.redis_service.specs.Lines.{no_memory_line}

-- ---- replies

-- the value of a reply, if it has one
abbrev pub value_in : Reply → Option (List ℕ)
value_in (Value value) = value
value_in reply = None

-- whether the key's value was the expected one
abbrev pub is_done : Reply → Bool
is_done (Done done) = done
is_done reply = false

-- a value as a client sees it, or nothing
abbrev pub bulk : Option (List ℕ) → List ℕ
bulk (Some value) = value_bytes value
bulk None = nothing_bytes

-- ---- calls

-- over the time of a call, and what becomes of its key's deadline. An entry whose time is over is taken away first
module _ (now : ℕ) (change : DeadlineChange) where
  -- the pass made this call, which got the reply; its key had this deadline before it, or none
  pub record Makes (old : PassState) (invocation : Invocation) (reply : Reply) (before : Option ℕ) (new : PassState) : Type 0 where
    pub same : ServesSameMap old new
    pub timed : TimedReply
    pub bytes : List ℕ
    pub calls : CallsAt old (record { now = now; change = change }) invocation timed bytes new
    pub reply_is : reply ≡ reply_by timed.kind bytes
    pub before_is : before ≡ timed.before

  -- memory was refused to this call, which would have added its key or set a deadline; the pass did not make it
  pub record Refuses (old : PassState) (invocation : Invocation) (new : PassState) : Type 0 where
    pub same : ServesSameMap old new
    pub refuses : RefusesAt old (record { now = now; change = change }) invocation new

  -- the call was made, and left the value of its reply here; or memory was refused to it
  abbrev pub Made : Result TimedReply NoMemory → PassState → Invocation → List ℕ → PassState → Type 0
  Made made old invocation found new =
      MatchResult made (λ timed. Makes old invocation (reply_by timed.kind found) timed.before new) (λ _. Refuses old invocation new)

  -- one call, whose reply and whose key's deadline before it are told so; or memory was refused to it
  abbrev pub AnswersTimed : PassState → Invocation → (Reply → Option ℕ → List ℕ) → List ℕ → PassState → Type 0
  AnswersTimed old invocation tells written new =
      ((reply : Reply) × (before : Option ℕ) × Makes old invocation reply before new × (written ≡ tells reply before))
      ⊎ (Refuses old invocation new × (written ≡ no_memory_line))

  -- one call, whose reply is told so; or memory was refused to it
  abbrev pub AnswersCall : PassState → Invocation → (Reply → List ℕ) → List ℕ → PassState → Type 0
  AnswersCall old invocation tells written new = AnswersTimed old invocation (λ reply before. tells reply) written new

-- ---- calls that are never refused, and leave the deadline as it is

module _ (now : ℕ) where
  -- a Get found this value, or none
  pub record Finds (old : PassState) (key : List ℕ) (found : Option (List ℕ)) (new : PassState) : Type 0 where
    pub reply : Reply
    pub before : Option ℕ
    pub makes : Makes now Keep old (on_key key get) reply before new
    pub found_is : found ≡ value_in reply

  -- a Remove took this value away, or found none
  pub record Removes (old : PassState) (key : List ℕ) (found : Option (List ℕ)) (new : PassState) : Type 0 where
    pub reply : Reply
    pub before : Option ℕ
    pub makes : Makes now Keep old (on_key key remove) reply before new
    pub found_is : found ≡ value_in reply

  -- a Get found this value, or none, which is told so
  abbrev pub AnswersGet : PassState → List ℕ → (Option (List ℕ) → List ℕ) → List ℕ → PassState → Type 0
  AnswersGet old key tells written new =
      (found : Option (List ℕ)) × Finds old key found new × (written ≡ tells found)

-- ---- several

-- the pass did this with each item in turn, and this came of each
abbrev pub Each : {X Y : Type 0} → (PassState → X → Y → PassState → Type 0) → PassState → List X → List Y → PassState → Type 0
Each Does old [] [] new = new ≡ old
Each Does old (x ∷ xs) (y ∷ ys) new = (mid : PassState) × Does old x y mid × Each Does mid xs ys new
Each Does old xs ys new = ⊥
