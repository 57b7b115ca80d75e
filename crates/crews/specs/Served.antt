-- How a crew served clients one after the other: what each session was, and that nothing else moved the crew.
use Rattle.std.specs.Prelude.{◌≡◌, ℕ, zero, suc, List, Option, Some, None}
use Rattle.std.specs.Io.KnownBytes.{Appends, Consumes}
use Rattle.program_registry.specs.declared.registry.Registry.{Registry}
use Rattle.devices.specs.Devices.{SourceState, SinkState}
use Rattle.sessions.specs.Sessions.{Ended}
use Rattle.sessions.specs.declared.session.SessionEnd.{SessionEnd}
use Rattle.crews.specs.declared.crew.Crew.{Crew}
use Rattle.crews.specs.Crews.{station}
use Rattle.crews.specs.Stations.{KeptTokens, no_tokens}
use Rattle.crews.specs.Steps.{CrewServes, Pairwise}

-- over what readers and writers tell, and which pairs of them were given to which crew, as it was then
module _ {R W : Type 0} (source : R → SourceState) (sink : W → SinkState) (gave : Crew → R → W → Type 0) where
  -- a session ended so, and left its client's reader and writer so: they were given to the old crew as one pair, what was read of
  -- the one is answered by what was written to the other, and the session led from the old crew, with no token of the registry that these
  -- tokens are of, to the new one with these tokens
  pub record IsAnswered (old : Crew) (end : SessionEnd) (reader : R) (writer : W) (tokens : KeptTokens) (new : Crew) : Type 0 where
    pub worker : new.worker ≡ old.worker
    pub came : R
    pub came_writer : W
    pub given : gave old came came_writer
    pub read : List ℕ
    pub written : List ℕ
    pub consumed : Consumes (source came).left (source reader).left read
    pub appended : Appends (sink came_writer).held (sink writer).held written
    pub ended : Ended CrewServes (station old (no_tokens tokens.registry)) end read (source reader).last written (station new tokens)

  -- a session with a client of its own moved the crew, and its tokens are of this registry
  pub record ServesClient (registry : Registry) (old new : Crew) : Type 0 where
    pub end : SessionEnd
    pub reader : R
    pub writer : W
    pub tokens : KeptTokens
    pub of : tokens.registry ≡ registry
    pub session : IsAnswered old end reader writer tokens new

  -- this number of sessions moved the crew, one after the other, and nothing else did; the tokens of all are of this registry
  abbrev pub ServesClients : Registry → ℕ → Crew → Crew → Type 0
  ServesClients registry zero old new = new ≡ old
  ServesClients registry (suc n) old new = (mid : Crew) × ServesClients registry n old mid × ServesClient registry mid new

  -- each crew was moved by sessions with clients of its own alone
  abbrev pub AllServeClients : Registry → List Crew → List Crew → Type 0
  AllServeClients registry olds news = Pairwise (λ old new. (n : ℕ) × ServesClients registry n old new) olds news

  -- a seat from which a crew served clients
  abbrev pub HasServedClients : Registry → Option Crew → Option Crew → Type 0
  HasServedClients registry (Some old) (Some new) = (n : ℕ) × ServesClients registry n old new
  HasServedClients registry old new = ⊥

-- it holds of the crew that was brought back to its seat
abbrev pub CameBack : (Crew → Type 0) → Option Crew → Option Crew → Type 0
CameBack over old (Some new) = over new
CameBack over old None = ⊥
