-- What `bpfmap exec` does: a session over a table of its own, and how its end is told.
use Rattle.std.specs.Prelude.{◌≡◌, ◌≢◌, ◌+◌, ◌⊎◌, ℕ, false, List, codes}
use Rattle.std.specs.Io.KnownBytes.{Appends, Consumes, IsAtEnd}
use Rattle.atomic_methods.specs.Hashes.{IsStripeCount}
use Rattle.sessions.specs.declared.alone.Alone.{Alone}
use Rattle.map_commands.specs.declared.ending.Ending.{Ending}
use Rattle.map_commands.specs.declared.ending.Ending.TheVariants as ending
use Rattle.map_commands.specs.declared.words.Task.TheVariants.{Exec}
use Rattle.sessions.specs.declared.session.SessionEnd.{SessionEnd}
use Rattle.sessions.specs.declared.session.SessionEnd.TheVariants.{Closed, Cut, Refused, ReadFailed, WriteFailed, NoMemory}
use Rattle.devices.specs.Devices.{SourceState, SinkState, TakesIfItCan}
use Rattle.map_commands.specs.CommandLine.{Asks}
use Rattle.map_commands.specs.Endings.{Outputs, EndsCall, TellsEnding}
use Rattle.sessions.specs.Requests.{Serves, IsNew}
use Rattle.sessions.specs.Sessions.{Ended, HasToldEnd, ends_after, failed_reads, failed_writes}

-- from an empty table and no program, a session that ended so read what the input lost and wrote what the output gained;
-- unless a write failed nothing is kept back
pub record HasSession (input input' : SourceState) (output output' : SinkState) (end : SessionEnd) : Type 0 where
  pub before : Alone
  pub is_new : IsNew before
  pub after : Alone
  pub read : List ℕ
  pub written : List ℕ
  pub consumed : Consumes input.left input'.left read
  pub appended : Appends output.held output'.held written
  pub ended : Ended Serves before end read input'.last written after
  pub told : input'.ends ≡ ends_after end input.ends
  pub whole : HasToldEnd end → IsAtEnd input'.left
  pub reads : input'.failures ≡ input.failures + failed_reads end
  pub writes : output'.failures ≡ output.failures + failed_writes end
  pub sent : end ≢ WriteFailed → output'.keeps_back ≡ false

-- standard error is told of a failed device alone
abbrev pub TellsEnd : SessionEnd → SinkState → SinkState → ℕ → Type 0
TellsEnd Closed old new status = (status ≡ 0) × (new ≡ old)
TellsEnd Cut old new status = (status ≡ 1) × (new ≡ old)
TellsEnd (Refused fault) old new status = (status ≡ 1) × (new ≡ old)
TellsEnd ReadFailed old new status = (status ≡ 3) × TakesIfItCan old new (codes "failed read\n")
TellsEnd WriteFailed old new status = (status ≡ 3) × TakesIfItCan old new (codes "failed write\n")
TellsEnd NoMemory old new status = (status ≡ 1) × (new ≡ old)

-- a session, and its end told
pub record RunsSession (input input' : SourceState) (old new : Outputs) (status : ℕ) : Type 0 where
  pub end : SessionEnd
  pub session : HasSession input input' old.output new.output end
  pub ending : TellsEnd end old.errors new.errors status

-- a table may not have this number of stripes
abbrev pub IsBadCount : ℕ → Type 0
IsBadCount stripes = IsStripeCount stripes → ⊥

-- a session over a table with this number of stripes; or a refusal, with nothing read: of that number, or of memory
abbrev pub Executes : ℕ → SourceState → SourceState → Outputs → Outputs → ℕ → Type 0
Executes stripes input input' old new status =
    (IsBadCount stripes × TellsEnding ending.BadStripes old new status × (input' ≡ input))
    ⊎ (((IsBadCount stripes → ⊥) × TellsEnding ending.NoMemory old new status × (input' ≡ input))
    ⊎ ((IsBadCount stripes → ⊥) × RunsSession input input' old new status))

-- what a call does: the words ask for a session; or it comes to an ending, and tells that
abbrev pub RunsBpfmap : List (List ℕ) → SourceState → SourceState → Outputs → Outputs → ℕ → Type 0
RunsBpfmap words input input' old new status =
    ((stripes : ℕ) × Asks words (Exec stripes) × Executes stripes input input' old new status)
    ⊎ ((ending : Ending) × EndsCall words input input' ending × TellsEnding ending old new status)
