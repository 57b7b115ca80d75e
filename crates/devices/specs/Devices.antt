-- What a device tells, and its bytes after several reads or writes.
use Rattle.std.specs.Prelude.{◌≡◌, ◌+◌, ◌-◌, ◌%◌, ◌^◌, ◌++◌, ◌<◌, ◌≤◌, ◌⊎◌, ℕ, Bool, List, Option, length, IfSome}
use Rattle.std.specs.Io.KnownBytes.{Appends}

-- the bytes that are left, if the source tells them; how many bytes the last read gave; how many reads have told the
-- end, modulo 2^64; and how many have failed
pub record SourceState : Type 0 where
  pub left : Option (List ℕ)
  pub last : ℕ
  pub ends : ℕ
  pub failures : ℕ

-- the bytes that were taken, if the sink tells them; whether it may keep back some of them; how many writes have failed
pub record SinkState : Type 0 where
  pub held : Option (List ℕ)
  pub keeps_back : Bool
  pub failures : ℕ

-- a count has 64 bits, and one more read may fail
abbrev pub CanRead : SourceState → Type 0
CanRead state = state.failures < 2 ^ 64 - 1

-- one more write may fail
abbrev pub CanWrite : SinkState → Type 0
CanWrite state = state.failures < 2 ^ 64 - 1

-- how often the end was told, after one more time: never as often as before
abbrev pub next_end : ℕ → ℕ
next_end n = (n + 1) % 2 ^ 64

-- a read gave this many bytes: none tells the end
abbrev pub Reads : SourceState → SourceState → ℕ → Type 0
Reads old new n =
    (new.last ≡ n) × (n ≡ 0 → new.ends ≡ next_end old.ends) × (1 ≤ n → new.ends ≡ old.ends) × (new.failures ≡ old.failures)

-- a read failed
abbrev pub FailsToRead : SourceState → SourceState → Type 0
FailsToRead old new = (new.failures ≡ old.failures + 1) × (new.ends ≡ old.ends)

-- if the bytes that were left are told, they are these
abbrev pub IsAll : Option (List ℕ) → List ℕ → Type 0
IsAll left bytes = IfSome left (λ all. bytes ≡ all)

-- the told bytes grew by a front of these bytes, but not by all of them
abbrev pub AppendsPart : Option (List ℕ) → Option (List ℕ) → List ℕ → Type 0
AppendsPart before after bytes =
    (front : List ℕ) × ((rest : List ℕ) × Appends before after front × (bytes ≡ front ++ rest) × (1 ≤ length rest))

-- all of the bytes were taken
abbrev pub TakesBytes : SinkState → SinkState → List ℕ → Type 0
TakesBytes old new bytes = Appends old.held new.held bytes × (new.failures ≡ old.failures)

-- a write failed, after a front of the bytes
abbrev pub TakesPart : SinkState → SinkState → List ℕ → Type 0
TakesPart old new bytes = AppendsPart old.held new.held bytes × (new.failures ≡ old.failures + 1)

-- a write or a flush failed, after a front of the bytes, which may be all of them
abbrev pub TakesFront : SinkState → SinkState → List ℕ → Type 0
TakesFront old new bytes =
    (front : List ℕ) × ((rest : List ℕ) × Appends old.held new.held front × (bytes ≡ front ++ rest)) × (new.failures ≡ old.failures + 1)

-- the bytes were taken, as long as the sink worked
abbrev pub TakesIfItCan : SinkState → SinkState → List ℕ → Type 0
TakesIfItCan old new bytes = TakesBytes old new bytes ⊎ TakesPart old new bytes

-- the bytes were taken, and then a write failed
abbrev pub TakesThenFails : SinkState → SinkState → List ℕ → Type 0
TakesThenFails old new bytes = Appends old.held new.held bytes × (new.failures ≡ old.failures + 1)
