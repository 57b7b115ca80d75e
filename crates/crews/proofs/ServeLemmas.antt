-- Crews before and after they served.
use Rattle.std.proofs.Common.{ℕ, List, Option, Some, None, IsSome, ◌≡◌, refl, sym, subst, ◌∙◌}
use Rattle.std.specs.Io.KnownBytes.{Appends, Consumes}
use Rattle.atomic_table.specs.Seated.{TableId}
use Rattle.program_registry.specs.declared.registry.Registry.{Registry}
use Rattle.devices.specs.Devices.{SourceState, SinkState}
use Rattle.sessions.specs.Sessions.{Ended}
use Rattle.sessions.specs.declared.session.SessionEnd.{SessionEnd}
use Rattle.crews.specs.declared.crew.Crew.{Crew}
use Rattle.crews.specs.Crews.{IsServed, CarriesSame, station}
use Rattle.crews.specs.Served.{IsAnswered}
use Rattle.crews.specs.Stations.{KeptTokens, no_tokens}
use Rattle.crews.specs.Steps.{CrewServes}

pub served_some : (id : TableId) (old new : Option Crew) → IsServed id old new → IsSome new
served_some id (Some old) (Some new) served = refl
served_some id (Some old) None served = absurd served
served_some id None new served = absurd served

pub carries_same : (crew : Crew) → CarriesSame crew crew
carries_same crew = record { worker = refl; pass = refl; team = refl }

pub carries_on : (a b c : Crew) → CarriesSame a b → CarriesSame b c → CarriesSame a c
carries_on a b c one more = record { worker = more.worker ∙ one.worker; pass = more.pass ∙ one.pass; team = more.team ∙ one.team }

module _ {R W : Type 0} (source : R → SourceState) (sink : W → SinkState) (gave : Crew → R → W → Type 0) where
  -- the session of a pair that was given to the crew
  pub is_answered : (old : Crew) (came : R) (came_writer : W) (end : SessionEnd) (reader : R) (writer : W) (new : Crew) → CarriesSame old new → gave old came came_writer
      → (registry : Registry) (tokens : KeptTokens) → tokens.registry ≡ registry → ((read : List ℕ) × ((written : List ℕ)
      × (Consumes (source came).left (source reader).left read
      × (Appends (sink came_writer).held (sink writer).held written
      × Ended CrewServes (station old (no_tokens registry)) end read (source reader).last written (station new tokens)))))
      → IsAnswered source sink gave old end reader writer tokens new
  is_answered old came came_writer end reader writer new same given registry tokens of (read, (written, (consumed, (appended, ended)))) = record {
    worker = same.worker;
    came = came;
    came_writer = came_writer;
    given = given;
    read = read;
    written = written;
    consumed = consumed;
    appended = appended;
    ended = subst (λ (r : Registry). Ended CrewServes (station old (no_tokens r)) end read (source reader).last written (station new tokens)) (sym of) ended;
  }
