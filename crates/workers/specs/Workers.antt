-- The work of a team.
use Rattle.std.specs.Prelude.{◌≡◌, ℕ, ◌<◌, List, length, slice_index_or}
use Rattle.std.specs.Prelude.{None}
use Rattle.workers.specs.declared.jobs.Job.{Job}
use denote.Ref.{MutBor}
use denote.Param.Members.{Shared}

-- a job that hasn't begun
abbrev pub job_of : {X T : Type 0} → X → Job X T
job_of x = record { own = x; answer = None }

module _ {F X T : Type 0} (g : Shared F (ℕ × (MutBor X × Unit {0})) (T × (MutBor X × Unit {0}))) (f : F) where
  -- worker i may be called with x
  abbrev pub MayTake : ℕ → X → Type 0
  MayTake i x = (p : MutBor X) → p.now ≡ x → g.pre f (i, (p, tt))

  -- worker i may be called with each element at its place
  abbrev pub TakesEach : List X → Type 0
  TakesEach xs = (i : ℕ) (p : MutBor X) → i < length xs → p.now ≡ slice_index_or xs i p.now → g.pre f (i, (p, tt))

  -- worker i, called with x, answered r and left y
  pub record Worked (i : ℕ) (x : X) (r : T) (y : X) : Type 0 where
    pub argument : MutBor X
    pub argument_is : argument.now ≡ x
    pub after_call : MutBor X
    pub call : g.post f (i, (argument, tt)) (r, (after_call, tt))
    pub left : after_call.now ≡ y

  -- each worker was called once, with the element at its place
  pub record AllWorked (xs : List X) (rs : List T) (ys : List X) : Type 0 where
    pub answers : length rs ≡ length xs
    pub left : length ys ≡ length xs
    pub each : (i : ℕ) (d : X) (e : T) → i < length xs → Worked i (slice_index_or xs i d) (slice_index_or rs i e) (slice_index_or ys i d)
