-- What a call of `mapd` does: what its words ask for, and what is told of it.
use Rattle.std.specs.Prelude.{◌≡◌, ◌⊎◌, ℕ, Bool, true, false, is_some, if◌then◌else◌, List, ◌++◌, Option, None, codes, decimal, IfOk, IsOk, IsErr}
use Rattle.clap.specs.Words.{IsAmong, fault_of}
use Rattle.clap.specs.declared.error.ErrorKind.{ErrorKind}
use Rattle.bin_stripes.specs.Opened.{IsPassCount}
use Rattle.bin_stripes.specs.declared.fault.OpenFault.{OpenFault}
use Rattle.bin_stripes.specs.declared.fault.OpenFault.TheVariants as opening
use Rattle.devices.specs.Devices.{SinkState, TakesBytes, TakesFront, TakesIfItCan}
use Rattle.map_commands.specs.declared.ending.Ending.{Ending}
use Rattle.map_commands.specs.declared.ending.Ending.TheVariants.{Reported, Refused, Explained, NoMemory, BadStripes, Shown, Faulty, Unread, NotUtf8}
use Rattle.map_server.specs.declared.words.MapdWords.{MapdWords}
use Rattle.map_commands.specs.Endings.{Outputs, IsHelpOrVersion, PrintsRefusal, TellsEnding}
use Rattle.map_commands.specs.Executions.{IsBadCount}
use Rattle.mio.specs.declared.net.listener.TcpListener.{TcpListener}
use Rattle.bin_stripes.specs.Passes.{PassState}
use Rattle.program_registry.specs.declared.registry.Registry.{Registry}
use Rattle.devices.specs.Channels.{ChannelState}
use Rattle.crews.specs.declared.clients.Protocol.{Protocol}
use Rattle.crews.specs.declared.crew.Crew.{Crew}
use Rattle.crews.specs.Crews.{CarriesSame}
use Rattle.crews.specs.Lives.{HasLived}
use Rattle.crews.specs.Steps.{Pairwise}
use Rattle.map_server.specs.declared.connection.Connection.{Connection}
use Rattle.map_server.specs.declared.ready.Ready.{Ready}
use Rattle.map_server.specs.declared.server.Server.{Server}
use Rattle.map_server.specs.declared.serving.Served.{Served}
use Rattle.map_server.specs.Servers.{AreAskedTerms, HasPorts, HasServed, IsAsked, passes_of}
use Rattle.map_server.specs.ServerWords.{AsksServer, reader_of}
use Rattle.map_commands.specs.Shown.{IsShown}

-- what words come to that ask for no server, by clap's kind of error, in whose text words are shown; memory may be refused to it
abbrev pub EndsServerWords : List (List ℕ) → Ending → Type 0
EndsServerWords words (Reported report) = ⊥
EndsServerWords words (Refused refusal meaning) = ⊥
EndsServerWords words (Explained printed meaning) = ⊥
EndsServerWords words NoMemory = Unit {0}
EndsServerWords words BadStripes = ⊥
EndsServerWords words (Shown text) = (kind : ErrorKind) × IsAmong kind (fault_of (reader_of words) words) × IsHelpOrVersion kind × IsShown words text.items
EndsServerWords words (Faulty text) = (kind : ErrorKind) × IsAmong kind (fault_of (reader_of words) words) × (IsHelpOrVersion kind → ⊥) × IsShown words text.items
EndsServerWords words Unread = ⊥
EndsServerWords words NotUtf8 = ⊥

-- ---- opening the map

-- a map may not have this number of passes
abbrev pub HasBadPasses : MapdWords → Type 0
HasBadPasses asked = IsPassCount (passes_of asked) → ⊥

-- a map may have these numbers of stripes and passes
abbrev pub CanOpen : MapdWords → Type 0
CanOpen asked = (IsBadCount asked.stripes → ⊥) × (HasBadPasses asked → ⊥)

-- why no map is opened; the number of stripes is looked at first
abbrev pub IsNotOpened : MapdWords → OpenFault → Type 0
IsNotOpened asked opening.BadStripes = IsBadCount asked.stripes
IsNotOpened asked opening.BadPasses = (IsBadCount asked.stripes → ⊥) × HasBadPasses asked
IsNotOpened asked opening.NoMemory = CanOpen asked

-- what is told of it
abbrev pub TellsOpenFault : OpenFault → Outputs → Outputs → ℕ → Type 0
TellsOpenFault opening.BadStripes old new status = TellsEnding BadStripes old new status
TellsOpenFault opening.BadPasses old new status = PrintsRefusal (codes "refused 51 at 0\n") (codes "workers * (1 + team), and 1 each for --keep and --metrics, is more than 64\n") old new status
TellsOpenFault opening.NoMemory old new status = TellsEnding NoMemory old new status

-- ---- serving

-- the text is on standard output, and none of it is kept back
abbrev pub PrintsAll : SinkState → SinkState → List ℕ → Type 0
PrintsAll old new text = TakesBytes old new text × (new.keeps_back ≡ false)

-- what is printed when serving has ended so, and the status: the number of streams, with 3 if an accept or the last save failed, else
-- 0; or that memory was refused, with 1
abbrev pub IsLastLine : Served → List ℕ → ℕ → Type 0
IsLastLine served text status =
    (IsOk served.crews × (text ≡ codes "served " ++ decimal served.streams ++ codes "\n") × (status ≡ (if served.has_failed then 3 else 0)))
    ⊎ (IsErr served.crews × (text ≡ codes "refused 9 at 0\n") × (status ≡ 1))

-- that is printed; or a write failed, after a front of it
abbrev pub EndsServing : Served → SinkState → SinkState → List ℕ → ℕ → Type 0
EndsServing served old new before status =
    ((text : List ℕ) × IsLastLine served text status × PrintsAll old new (before ++ text))
    ⊎ ((status ≡ 3) × ((text : List ℕ) × (meant : ℕ) × IsLastLine served text meant × TakesFront old new (before ++ text)))

-- a port could not be bound, of which standard error is told, with why
abbrev pub FailsToListen : Outputs → Outputs → ℕ → Type 0
FailsToListen old new status =
    (status ≡ 3) × (new.output ≡ old.output) × ((why : List ℕ) × TakesIfItCan old.errors new.errors (codes "failed listen\n" ++ why))

-- a socket tells none of its bytes
abbrev pub tells_none : Connection → ChannelState
tells_none connection = record { left = None; held = None }

-- any client may come, by any port
abbrev pub AnyComes : PassState → Connection → Protocol → Type 0
AnyComes pass connection protocol = Unit {0}

-- the crew came back with the numbers that it had: turns of its own clients, whose programs are all of this registry, and its own sweeps moved it, and
-- nothing else; there may have been none. Clients of commands had to show this password, if there is one. Only a strict server may refuse a
-- change of a present key
pub record HasAttended (registry : Registry) (password : Option (List ℕ)) (strict : Bool) (old new : Crew) : Type 0 where
  pub same : CarriesSame old new
  pub lived : HasLived tells_none AnyComes registry password strict old new

-- each crew came back so
abbrev pub HaveAttended : Registry → Option (List ℕ) → Bool → List Crew → List Crew → Type 0
HaveAttended registry password strict olds news = Pairwise (HasAttended registry password strict) olds news

-- these crews came back so; or memory was refused, and nobody was served
abbrev pub ServedBy : Registry → Option (List ℕ) → Bool → List Crew → Served → Type 0
ServedBy registry password strict crews served = IfOk served.crews (λ back. HaveAttended registry password strict crews back.items)

-- `ready` can't be printed; or it is, then this is served, an end of serving is seen, and then it is printed
abbrev pub ServesReady : (Served → Type 0) → Registry → Ready → SinkState → SinkState → ℕ → Type 0
ServesReady saw registry ready old new status =
    ((status ≡ 3) × TakesFront old new (codes "ready\n"))
    ⊎ ((served : Served) × saw served × HasServed ready served × ServedBy registry ready.password ready.limits.is_strict ready.crews.items served × EndsServing served old new (codes "ready\n") status)

-- over which listener is bound to which address, and which end of serving was seen
module _ (bound : TcpListener → List ℕ → Type 0) (saw : Served → Type 0) where
  -- `ready` can't be printed; or it is, then a server as it is asked for, whose ports are bound to the addresses asked for, serves clients, and
  -- then how that ended is printed. If there is a file of a password, clients of commands have to show one
  abbrev pub ServesClients : MapdWords → SinkState → SinkState → ℕ → Type 0
  ServesClients asked old new status =
      ((status ≡ 3) × TakesFront old new (codes "ready\n"))
      ⊎ ((server : Server) × (served : Served) × (numbers : Option TcpListener)
      × IsAsked asked server × AreAskedTerms asked served.terms × HasPorts bound asked served.ports numbers
      × (is_some server.password ≡ is_some asked.password_file)
      × (saw served × ServedBy server.registry server.password server.limits.is_strict server.crews.items served × EndsServing served old new (codes "ready\n") status))

-- the line of a refusal with this number
abbrev pub refusal_line : ℕ → List ℕ
refusal_line number = codes "refused " ++ decimal number ++ codes " at 0\n"

-- the map could not be restored from its file. Nothing is printed, with 3; or a refusal is, of a program in it or of memory, with 1; or
-- that can't be
abbrev pub FailsToRestore : MapdWords → SinkState → SinkState → ℕ → Type 0
FailsToRestore asked old new status =
    (is_some asked.keep ≡ true)
    × (((status ≡ 3) × (new ≡ old))
    ⊎ (((status ≡ 1) × ((number : ℕ) × PrintsAll old new (refusal_line number)))
    ⊎ ((status ≡ 3) × ((number : ℕ) × TakesFront old new (refusal_line number)))))

-- the file of the password can't be read, or its first line is none; standard error is told why
abbrev pub LacksPassword : MapdWords → Outputs → Outputs → ℕ → Type 0
LacksPassword asked old new status = (is_some asked.password_file ≡ true) × (status ≡ 3) × (new.output ≡ old.output)

-- over which listener is bound to which address, and which end of serving was seen
module _ (bound : TcpListener → List ℕ → Type 0) (saw : Served → Type 0) where
  -- a port could not be bound; or all were, but the map was not restored from its file; or it was, or is not kept, and clients are served
  abbrev pub Listens : MapdWords → Outputs → Outputs → ℕ → Type 0
  Listens asked old new status =
      FailsToListen old new status
      ⊎ (FailsToRestore asked old.output new.output status ⊎ ServesClients bound saw asked old.output new.output status)

  -- what a call does: its words ask for no server; or there is no password; or no map is opened; or it listens
  abbrev pub RunsMapd : List (List ℕ) → Outputs → Outputs → ℕ → Type 0
  RunsMapd words old new status =
      ((ending : Ending) × EndsServerWords words ending × TellsEnding ending old new status)
      ⊎ ((asked : MapdWords) × AsksServer words asked
      × (LacksPassword asked old new status
      ⊎ (((fault : OpenFault) × IsNotOpened asked fault × TellsOpenFault fault old new status) ⊎ (CanOpen asked × Listens asked old new status))))
