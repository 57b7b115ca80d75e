-- A worker's whole life: the turns of all its clients and its own sweeps in one chain, and of each client what was read of it and written to it.
use Rattle.std.specs.Prelude.{◌≡◌, ◌==◌, ℕ, ◌<◌, ◌≤◌, Bool, false, List, [], ◌∷◌, ◌++◌, Option, None, if◌then◌else◌}
use Rattle.std.specs.Io.KnownBytes.{Appends, Consumes}
use Rattle.bin_stripes.specs.Passes.{PassState}
use Rattle.program_registry.specs.declared.registry.Registry.{Registry}
use Rattle.devices.specs.Channels.{ChannelState}
use Rattle.redis_service.specs.Sweeps.{Sweeps}
use Rattle.sessions.specs.Conversations.{Exchange}
use Rattle.sessions.specs.OwedAnswers.{OwedState}
use Rattle.crews.specs.declared.clients.Parting.{Parting}
use Rattle.crews.specs.declared.clients.Protocol.{Protocol}
use Rattle.crews.specs.declared.crew.Crew.{Crew}
use Rattle.crews.specs.declared.talk.Talk.{Talk}
use Rattle.crews.specs.Crews.{team_numbers}
use Rattle.crews.specs.Stations.{KeptTokens, no_tokens, Station}
use Rattle.crews.specs.Partings.{PartsSo, SaysSo}
use Rattle.crews.specs.Talks.{protocol_of}

-- what a crew's passes know, and whether its server is strict
pub record Known : Type 0 where
  pub pass : PassState
  pub team : List PassState
  pub is_strict : Bool

abbrev pub known : Station → Known
known station = record { pass = station.pass; team = station.team; is_strict = station.is_strict }

abbrev pub known_of : Crew → Known
known_of crew = record { pass = crew.pass; team = crew.team.passes.items; is_strict = false }

-- the same at a server that is strict, or not
abbrev pub known_at : Bool → Crew → Known
known_at strict crew = record { pass = crew.pass; team = crew.team.passes.items; is_strict = strict }

-- a turn of the worker
pub data Turn : Type 0 where
  -- an exchange with the client of this number
  serves : ℕ → Exchange Station → Turn
  -- a sweep at this time, after which the crew's pass knows this
  sweeps : ℕ → PassState → Turn

-- the turns lead from what the passes knew to what they know, each from where the one before it ended; nothing else does. A sweep takes
-- entries away whose time is over, and the team doesn't hear of it
abbrev pub Moves : Known → List Turn → Known → Type 0
Moves old [] new = new ≡ old
Moves old (serves client exchange ∷ turns) new = (known exchange.old ≡ old) × Moves (known exchange.new) turns new
Moves old (sweeps time pass ∷ turns) new = Sweeps time old.pass pass × Moves (record old { pass = pass }) turns new

-- each exchange begins with the tokens that the one before it left
abbrev pub KeepsTokens : KeptTokens → List (Exchange Station) → KeptTokens → Type 0
KeepsTokens old [] new = new ≡ old
KeepsTokens old (exchange ∷ exchanges) new = (exchange.old.tokens ≡ old) × KeepsTokens exchange.new.tokens exchanges new

-- the passes carry the numbers that they carried, and are of the map that they were of; the server is as strict as it was
pub record KeepsNumbers (old new : Known) : Type 0 where
  pub map_is : new.pass.map ≡ old.pass.map
  pub pass : new.pass.view.numbers ≡ old.pass.view.numbers
  pub team : team_numbers new.team ≡ team_numbers old.team
  pub strict : new.is_strict ≡ old.is_strict

-- the exchanges with one client
abbrev pub exchanges_of : ℕ → List Turn → List (Exchange Station)
exchanges_of client [] = []
exchanges_of client (serves one exchange ∷ turns) = (if one == client then exchange ∷ [] else []) ++ exchanges_of client turns
exchanges_of client (sweeps time pass ∷ turns) = exchanges_of client turns

-- a client as it came: its connection, and the protocol of the port that it came to
pub record Arrival (C : Type 0) : Type 0 where
  pub channel : C
  pub protocol : Protocol

-- over what connections tell, the registry of all programs, and the password that clients of commands have to show, if there is one
module _ {C : Type 0} (state : C → ChannelState) (registry : Registry) (password : Option (List ℕ)) where
  -- a client that came so speaks the protocol of its port: what was read of it is answered in these exchanges, each with the tokens of
  -- the one before it, and what was written to it, with what is owed, are the answers
  pub record Stands (came : Arrival C) (now : C) (exchanges : List (Exchange Station)) (tokens : KeptTokens) (talk : Talk) (owed : OwedState) (leaving : Option Parting) : Type 0 where
    pub speaks : protocol_of talk ≡ came.protocol
    pub read : List ℕ
    pub written : List ℕ
    pub consumed : Consumes (state came.channel).left (state now).left read
    pub appended : Appends (state came.channel).held (state now).held written
    pub of : tokens.registry ≡ registry
    pub keeps : KeepsTokens (no_tokens registry) exchanges tokens
    pub says : SaysSo password leaving talk exchanges read (written ++ owed.rest)
    pub unfailed : leaving ≡ None → owed.failures ≡ 0

-- over which connections were given to the worker, what its pass knew then, and by which protocol
module _ {C : Type 0} (gave : PassState → C → Protocol → Type 0) where
  -- the turns lead from what the passes knew to what they know, and the client of this number came among them so: none of the earlier
  -- ones is its own
  pub record HasCome (old : Known) (turns : List Turn) (new : Known) (client : ℕ) (came : Arrival C) : Type 0 where
    pub earlier : List Turn
    pub later : List Turn
    pub order : turns ≡ earlier ++ later
    pub mid : Known
    pub before : Moves old earlier mid
    pub since : Moves mid later new
    pub given : gave mid.pass came.channel came.protocol
    pub none : exchanges_of client earlier ≡ []

-- and over what they tell
module _ {C : Type 0} (state : C → ChannelState) (gave : PassState → C → Protocol → Type 0) where
  -- a client left so, and these are its connection and its tokens now: its exchanges are turns among those that led to what the pass knows,
  -- from no token of the registry that its tokens are of to these
  pub record HasParted (pass : PassState) (now : C) (tokens : KeptTokens) (parting : Parting) : Type 0 where
    pub old : Known
    pub turns : List Turn
    pub new : Known
    pub knows : new.pass ≡ pass
    pub client : ℕ
    pub came : Arrival C
    pub come : HasCome gave old turns new client came
    pub read : List ℕ
    pub written : List ℕ
    pub consumed : Consumes (state came.channel).left (state now).left read
    pub appended : Appends (state came.channel).held (state now).held written
    pub keeps : KeepsTokens (no_tokens tokens.registry) (exchanges_of client turns) tokens
    pub password : Option (List ℕ)
    pub parts : PartsSo password came.protocol parting (exchanges_of client turns) read written

-- the same, the registry of all programs, and the password
module _ {C : Type 0} (state : C → ChannelState) (gave : PassState → C → Protocol → Type 0) (registry : Registry) (password : Option (List ℕ)) where
  -- a client came and has had its turns among these
  abbrev pub IsOfClient : Known → List Turn → Known → ℕ → Type 0
  IsOfClient old turns new client =
      (came : Arrival C) × (now : C) × (tokens : KeptTokens) × (talk : Talk) × (owed : OwedState) × (leaving : Option Parting)
      × HasCome gave old turns new client came × Stands state registry password came now (exchanges_of client turns) tokens talk owed leaving

  -- turns with this number of clients, and sweeps, lead from what the passes knew to what they know
  pub record Life (old : Known) (turns : List Turn) (new : Known) (clients : ℕ) : Type 0 where
    pub moves : Moves old turns new
    pub each : (client : ℕ) → client < clients → IsOfClient old turns new client
    pub no_other : (client : ℕ) → clients ≤ client → exchanges_of client turns ≡ []
    pub numbers : KeepsNumbers old new

  -- turns with its clients and sweeps, and nothing else, moved the crew of a server that is strict, or not; the tokens of all clients are of
  -- this registry
  abbrev pub HasLived : Bool → Crew → Crew → Type 0
  HasLived strict old new = (turns : List Turn) × (clients : ℕ) × Life (known_at strict old) turns (known_at strict new) clients
