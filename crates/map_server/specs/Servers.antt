-- What `mapd` serves, as its words ask for it.
use Rattle.std.specs.Prelude.{◌≡◌, ℕ, ◌+◌, ◌*◌, List, All, IfSome, Option, None, Some, String, if◌then◌else◌, is_some, map, string_bytes, vec_len, option_map}
use Rattle.mio.specs.declared.net.listener.TcpListener.{TcpListener}
use Rattle.stripe_rule.specs.Rule.{from_on}
use Rattle.bin_stripes.specs.Passes.{stripes_of}
use Rattle.crews.specs.declared.crew.Crew.{Crew}
use Rattle.crews.specs.Crews.{IsCrewOf}
use Rattle.map_keeper.specs.declared.keeper.Shared.{Shared}
use Rattle.map_keeper.specs.Keepers.{pass_of}
use Rattle.map_server.specs.Memory.{shares_of}
use Rattle.map_server.specs.declared.ports.Ports.{Ports}
use Rattle.map_server.specs.declared.ready.Ready.{Ready}
use Rattle.map_server.specs.declared.server.Protocols.{Protocols}
use Rattle.map_server.specs.declared.server.Server.{Server}
use Rattle.map_server.specs.declared.serving.Served.{Served}
use Rattle.map_server.specs.declared.serving.Terms.{Terms}
use Rattle.map_server.specs.declared.words.MapdWords.{MapdWords}

-- this number of crews, whose workers are numbered from 0 on, each with a team of this number of passes
pub record AreAsked (workers team : ℕ) (crews : List Crew) : Type 0 where
  pub numbered : map (λ crew. crew.worker) crews ≡ from_on 0 workers
  pub teams : All (λ crew. vec_len crew.team.passes ≡ team) crews

-- clients speak frames if there is an address of --listen, and commands if there is one of --redis
abbrev pub protocols_of : MapdWords → Protocols
protocols_of asked = record { frames = is_some asked.listen; commands = is_some asked.redis }

-- the map has a pass for each worker, one for each member of its team, one for its keeper, if it is kept in a file, and one by which its
-- entries are counted, if there is a port for the numbers
abbrev pub passes_of : MapdWords → ℕ
passes_of asked = asked.workers * (1 + asked.team) + (if is_some asked.keep then 1 else 0) + (if is_some asked.metrics then 1 else 0)

-- over which listener is bound to which address
module _ (bound : TcpListener → List ℕ → Type 0) where
  -- there is a listener if there is an address, and it is bound to that one
  abbrev pub IsBoundTo : {A : Type 0} → Option (String A) → Option TcpListener → Type 0
  IsBoundTo None None = Unit {0}
  IsBoundTo None (Some listener) = ⊥
  IsBoundTo (Some address) None = ⊥
  IsBoundTo (Some address) (Some listener) = bound listener (string_bytes address)

  -- there is a port at each address that is asked for, and no other: for frames, for commands, and for readers of the server's numbers
  pub record HasPorts (asked : MapdWords) (ports : Ports) (numbers : Option TcpListener) : Type 0 where
    pub frames : IsBoundTo asked.listen ports.frames
    pub commands : IsBoundTo asked.redis ports.commands
    pub metrics : IsBoundTo asked.metrics numbers

-- the terms on which this is ready: its sessions and limits, and if it has a password, saves and numbers
pub record AreTerms (ready : Ready) (terms : Terms) : Type 0 where
  pub sessions : terms.sessions ≡ ready.quotas.most
  pub limits : terms.limits ≡ ready.limits
  pub password : terms.has_password ≡ is_some ready.password
  pub keeps : terms.keeps ≡ option_map (λ kept. kept.seconds) ready.kept
  pub watches : terms.watches ≡ is_some ready.watch

-- it can be served over this map: its crews, its keeper and its watcher have passes of it, and each crew has a poll
pub record CanServe (shared : Shared) (ready : Ready) : Type 0 where
  pub crews : All (λ crew. IsCrewOf shared.map.now crew) ready.crews.items
  pub polls : vec_len ready.polls ≡ vec_len ready.crews
  pub kept : IfSome ready.kept (λ kept. (pass_of kept.keeper).map ≡ shared.map.now)
  pub watch : IfSome ready.watch (λ watch. watch.pass.map ≡ shared.map.now)

-- what was ready was served, at its ports and on its terms
pub record HasServed (ready : Ready) (served : Served) : Type 0 where
  pub ports : served.ports ≡ ready.gates.ports
  pub terms : AreTerms ready served.terms

-- clients were served on the terms that are asked for: this number of sessions for each worker, within these limits, which also say what
-- is kept for SLOWLOG, what may be kept for clients and if changes are refused while saves fail, this number of seconds from one save to the next, a password if there is a file of
-- one, and numbers if there is a port for them
pub record AreAskedTerms (asked : MapdWords) (terms : Terms) : Type 0 where
  pub sessions : terms.sessions ≡ asked.sessions
  pub clients : terms.limits.clients ≡ asked.clients
  pub idle : terms.limits.idle ≡ asked.idle
  pub slow : terms.limits.slow ≡ asked.slowlog_microseconds
  pub memory : terms.limits.session_bytes ≡ (shares_of asked.memory).sessions
  pub strict : terms.limits.is_strict ≡ asked.keep_strict
  pub password : terms.has_password ≡ is_some asked.password_file
  pub keeps : terms.keeps ≡ (if is_some asked.keep then Some asked.keep_seconds else None)
  pub watches : terms.watches ≡ is_some asked.metrics

-- the map has the stripes that are asked for; the crews are those that are asked for; each of them may serve as many sessions
-- as are asked for, within the limits that are, which also say which commands are kept for SLOWLOG; clients speak the protocols of the ports
-- that are, and may load as many scripts as programs; and the map has a keeper if there is a file, and a watcher if there is a port for the
-- numbers
pub record IsAsked (asked : MapdWords) (server : Server) : Type 0 where
  pub stripes : stripes_of server.map ≡ asked.stripes
  pub crews : AreAsked asked.workers asked.team server.crews.items
  pub workers : vec_len server.quotas.begun ≡ asked.workers
  pub sessions : server.quotas.most ≡ asked.sessions
  pub clients : server.limits.clients ≡ asked.clients
  pub idle : server.limits.idle ≡ asked.idle
  pub slow : server.limits.slow ≡ asked.slowlog_microseconds
  pub memory : server.limits.session_bytes ≡ (shares_of asked.memory).sessions
  pub strict : server.limits.is_strict ≡ asked.keep_strict
  pub protocols : server.protocols ≡ protocols_of asked
  pub scripts : server.scripts ≡ asked.programs
  pub keeper : is_some server.keeper ≡ is_some asked.keep
  pub watcher : is_some server.watcher ≡ is_some asked.metrics
