-- Changes of a value by what it was: a Get, and then a ReplaceIf or a PutIfAbsent by what it found, again until one takes.
use Rattle.std.specs.Prelude.{◌≡◌, ◌⊎◌, ℕ, zero, suc, Bool, true, false, List, Option, Some, None, is_none}
use Rattle.atomic_methods.specs.declared.reply.Reply.{Reply}
use Rattle.atomic_methods.specs.Invocations.{Invocation, on_key, put_if_absent, replace_if}
use Rattle.timed_bins.specs.declared.timing.DeadlineChange.{DeadlineChange}
use Rattle.bin_stripes.specs.Passes.{PassState}
use Rattle.redis_service.specs.Lines.{no_memory_line}
use Rattle.redis_service.specs.Calls.{Makes, Refuses, Finds, value_in, is_done}

-- what a command does with the value that it found: nothing, or it sets a new one; and its reply
pub data Step : Type 0 where
  stays : List ℕ → Step
  becomes : List ℕ → List ℕ → Step

-- the call that sets the new value only if the found one, or none, is still there
abbrev pub swap : List ℕ → Option (List ℕ) → List ℕ → Invocation
swap key (Some found) value = on_key key (replace_if found value)
swap key None value = on_key key (put_if_absent value)

-- whether that call took
abbrev pub takes : Option (List ℕ) → Reply → Bool
takes (Some found) reply = is_done reply
takes None reply = is_none (value_in reply)

-- over the time of the calls, what becomes of the key's deadline if one takes, the key, and what the command does with each value
-- that it may find there
module _ (now : ℕ) (change : DeadlineChange) (key : List ℕ) (Does : Option (List ℕ) → Step → Type 0) where
  -- another change came between the Get and the call after it, which changed nothing
  pub record LosesTry (old new : PassState) : Type 0 where
    pub found : Option (List ℕ)
    pub mid : PassState
    pub finds : Finds now old key found mid
    pub value : List ℕ
    pub text : List ℕ
    pub does : Does found (becomes value text)
    pub reply : Reply
    pub before : Option ℕ
    pub makes : Makes now change mid (swap key found value) reply before new
    pub lost : takes found reply ≡ false

  -- this number of tries were lost, one after the other
  abbrev pub LosesTries : ℕ → PassState → PassState → Type 0
  LosesTries zero old new = new ≡ old
  LosesTries (suc n) old new = (mid : PassState) × LosesTries n old mid × LosesTry mid new

  -- the call after the Get took, and the command is answered; or memory was refused to that call
  abbrev pub Swaps : Option (List ℕ) → List ℕ → List ℕ → PassState → List ℕ → PassState → Type 0
  Swaps found value text old written new =
      ((reply : Reply) × (before : Option ℕ) × Makes now change old (swap key found value) reply before new
      × (takes found reply ≡ true) × (written ≡ text))
      ⊎ (Refuses now change old (swap key found value) new × (written ≡ no_memory_line))

  -- what is done with the value that was found
  abbrev pub Ends : Option (List ℕ) → Step → PassState → List ℕ → PassState → Type 0
  Ends found (stays text) old written new = (new ≡ old) × (written ≡ text)
  Ends found (becomes value text) old written new = Swaps found value text old written new

  -- the last try
  pub record EndsTry (old : PassState) (written : List ℕ) (new : PassState) : Type 0 where
    pub found : Option (List ℕ)
    pub mid : PassState
    pub finds : Finds now old key found mid
    pub step : Step
    pub does : Does found step
    pub ends : Ends found step mid written new

  -- some tries were lost, and then one was not
  pub record AnswersChange (old : PassState) (written : List ℕ) (new : PassState) : Type 0 where
    pub tries : ℕ
    pub mid : PassState
    pub lost : LosesTries tries old mid
    pub last : EndsTry mid written new
