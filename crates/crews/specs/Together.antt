-- What two crews have in common that served clients one after the other, once their passes are joined.
use Rattle.std.specs.Prelude.{◌≡◌, ℕ, ◌<◌, zero, suc, List, [], ◌++◌}
use Rattle.stripe_rule.specs.History.{made_by}
use Rattle.stripe_rule.specs.Gains.{Carries, seen_of, mine_of}
use Rattle.stripe_rule.specs.declared.view.Event.{Event}
use Rattle.bin_stripes.specs.declared.ghost_action.GhostAction.{GhostAction}
use Rattle.bin_stripes.specs.Passes.{PassState, stripes_of}
use Rattle.program_registry.specs.declared.registry.Registry.{Registry}
use Rattle.devices.specs.Devices.{SourceState, SinkState}
use Rattle.sessions.specs.Sessions.{Ended}
use Rattle.sessions.specs.declared.session.SessionEnd.{SessionEnd}
use Rattle.crews.specs.declared.crew.Crew.{Crew}
use Rattle.crews.specs.Collected.{in_session}
use Rattle.crews.specs.Crews.{station}
use Rattle.crews.specs.Served.{ServesClients}
use Rattle.crews.specs.Shared.{AnsweredCall, call_of_step, events_at}
use Rattle.crews.specs.Stations.{KeptTokens, no_tokens}
use Rattle.crews.specs.Steps.{CrewServes}

-- a session led from how the crew stood to how it stands
pub record SessionOfCrew (old new : Crew) : Type 0 where
  pub end : SessionEnd
  pub read : List ℕ
  pub last : ℕ
  pub written : List ℕ
  pub registry : Registry
  pub tokens : KeptTokens
  pub ended : Ended CrewServes (station old (no_tokens registry)) end read last written (station new tokens)

-- this number of sessions did, one after the other
abbrev pub SessionsOfCrew : ℕ → Crew → Crew → Type 0
SessionsOfCrew zero old new = new ≡ old
SessionsOfCrew (suc n) old new = (mid : Crew) × SessionsOfCrew n old mid × SessionOfCrew mid new

-- the calls that they answered, in order
abbrev pub calls_in : (n : ℕ) (old new : Crew) → SessionsOfCrew n old new → List AnsweredCall
calls_in zero old new same = []
calls_in (suc n) old new (mid, before, one) =
    calls_in n old mid before
    ++ in_session CrewServes call_of_step (station mid (no_tokens one.registry)) (station new one.tokens) one.read one.written one.last one.end one.ended

-- the sessions by which a crew served clients
module _ {R W : Type 0} (source : R → SourceState) (sink : W → SinkState) (gave : Crew → R → W → Type 0) (registry : Registry) where
  abbrev pub sessions_of : (n : ℕ) (old new : Crew) → ServesClients source sink gave registry n old new → SessionsOfCrew n old new
  sessions_of zero old new same = same
  sessions_of (suc n) old new (mid, before, one) = (
    mid,
    sessions_of n old mid before,
    record {
      end = one.end;
      read = one.session.read;
      last = (source one.reader).last;
      written = one.session.written;
      registry = one.tokens.registry;
      tokens = one.tokens;
      ended = one.session.ended;
    },
  )

-- what the crew's pass had made on the stripe k before all these sessions, and then the calls that they answered
abbrev pub made_with_all : (n : ℕ) (old new : Crew) → SessionsOfCrew n old new → ℕ → List (Event GhostAction)
made_with_all n old new sessions k = mine_of old.pass.view k ++ events_at old.pass k (calls_in n old new sessions)

-- of each stripe the joined pass has seen, under each number that it carries, just what the two crews' passes had made before all
-- their sessions, and each call that the sessions answered, once and in order
abbrev pub SeesAllSessions : PassState → PassState → PassState → Type 0
SeesAllSessions one other joined =
    (n m : ℕ) (first served second also : Crew) (sessions : SessionsOfCrew n first served) (later : SessionsOfCrew m second also) (k q : ℕ)
    → one ≡ served.pass → other ≡ also.pass → k < stripes_of joined.map → Carries joined.view q
    → made_by q (seen_of joined.view k) ≡ made_by q (made_with_all n first served sessions k ++ made_with_all m second also later k)
