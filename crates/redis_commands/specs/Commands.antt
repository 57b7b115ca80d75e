-- What a client asks for: commands over bytes, and faults of words.
use Rattle.std.specs.Prelude.{ℕ, ℤ, Bool, List, Option, Result, Ok, Err, map, option_map}
use Rattle.std.specs.Borrow.{Bor}
use Rattle.redis_commands.specs.declared.name.Name.{Name}
use Rattle.redis_commands.specs.declared.name.Parent.{Parent}
use Rattle.redis_commands.specs.declared.name.Sub.{Sub}
use Rattle.redis_commands.specs.declared.command.KeysAct.{KeysAct}
use Rattle.redis_commands.specs.declared.command.Condition.{Condition as ShownCondition}
use Rattle.redis_commands.specs.declared.command.Condition.TheVariants as condition
use Rattle.redis_commands.specs.declared.command.Lifetime.{Lifetime}
use Rattle.redis_commands.specs.declared.command.ExpireRule.{ExpireRule}
use Rattle.redis_commands.specs.declared.command.TimeUnit.{TimeUnit}
use Rattle.redis_commands.specs.declared.command.TimeForm.{TimeForm}
use Rattle.redis_commands.specs.declared.command.KeyAct.{KeyAct}
use Rattle.redis_commands.specs.declared.command.KeyAct.TheVariants as act
use Rattle.redis_commands.specs.declared.command.WalkCommand.{WalkCommand}
use Rattle.redis_commands.specs.declared.command.WalkCommand.TheVariants as walk
use Rattle.redis_commands.specs.declared.command.ConnectionCommand.{ConnectionCommand}
use Rattle.redis_commands.specs.declared.command.ConnectionCommand.TheVariants as connection
use Rattle.redis_commands.specs.declared.command.LastSave.{LastSave}
use Rattle.redis_commands.specs.declared.command.ClientFilter.{ClientFilter}
use Rattle.redis_commands.specs.declared.command.ClientsCommand.{ClientsCommand}
use Rattle.redis_commands.specs.declared.command.ClientsCommand.TheVariants as clients
use Rattle.redis_commands.specs.declared.command.SlowlogCommand.{SlowlogCommand}
use Rattle.redis_commands.specs.declared.command.ServerCommand.{ServerCommand}
use Rattle.redis_commands.specs.declared.command.ServerCommand.TheVariants as server
use Rattle.redis_commands.specs.declared.command.ProgramCommand.{ProgramCommand}
use Rattle.redis_commands.specs.declared.command.ProgramCommand.TheVariants as program
use Rattle.redis_commands.specs.declared.command.Command.{Command}
use Rattle.redis_commands.specs.declared.command.Command.TheVariants as command
use Rattle.redis_commands.specs.declared.fault.CommandFault.{CommandFault}
use Rattle.redis_commands.specs.declared.fault.CommandFault.TheVariants as fault

-- when `SET` puts its value
pub data Condition : Type 0 where
  Always : Condition
  IfAbsent : Condition
  IfPresent : Condition
  IfEqual : List ℕ → Condition

-- what is done with the value or the deadline of one key; of `Set` there come the value, its condition, whether the old value
-- is wanted, and how long the new one stays; of `Expire` the new deadline, of `GetRange` the start, of `SetRange` the offset
-- come first
pub data Act : Type 0 where
  Get : Act
  Set : List ℕ → Condition → Bool → Lifetime → Act
  SetIfAbsent : List ℕ → Act
  GetAndSet : List ℕ → Act
  GetAndDelete : Act
  Length : Act
  TypeName : Act
  GetAndExpire : Lifetime → Act
  Expire : ℕ → ExpireRule → Act
  Persist : Act
  TimeLeft : TimeUnit → TimeForm → Act
  Add : ℤ → Act
  Append : List ℕ → Act
  GetRange : ℤ → ℤ → Act
  SetRange : ℕ → List ℕ → Act
  DeleteIfEqual : List ℕ → Act

-- what is asked of the whole map; of `Scan` a cursor, a pattern or none, about how many keys, and whether it is strings
-- that are asked for
pub data WalkAsked : Type 0 where
  CountAll : WalkAsked
  Scan : ℕ → Option (List ℕ) → ℕ → Bool → WalkAsked
  Keys : List ℕ → WalkAsked
  RandomKey : WalkAsked
  RemoveAll : WalkAsked

-- what is asked of the connection; of `Hello` a password and a name; `Auth` is AUTH with a password alone, `AuthDefault` with the user
-- `default` before it
pub data ConnectionAsked : Type 0 where
  Ping : Option (List ℕ) → ConnectionAsked
  Echo : List ℕ → ConnectionAsked
  Quit : ConnectionAsked
  Select : ConnectionAsked
  Hello : Option (List ℕ) → Option (List ℕ) → ConnectionAsked
  Auth : List ℕ → ConnectionAsked
  AuthDefault : List ℕ → ConnectionAsked
  ClientId : ConnectionAsked
  ClientName : ConnectionAsked
  SetClientName : List ℕ → ConnectionAsked
  SetClientInfo : List ℕ → List ℕ → ConnectionAsked
  Commands : ConnectionAsked
  CommandCount : ConnectionAsked
  CommandDocs : ConnectionAsked
  Config : List (List ℕ) → ConnectionAsked
  Reset : ConnectionAsked

-- which clients are meant: those of this number, this address and the one that they came to, if they are given, and of the one type; the one
-- who asks may be spared
pub record Filter : Type 0 where
  pub number : Option ℕ
  pub address : Option (List ℕ)
  pub local_address : Option (List ℕ)
  pub is_normal : Bool
  pub spares_own : Bool

-- what is asked of the clients: a list of all, of none, of those with these numbers, the client itself, to let go the one
-- with this address, or those that are meant
pub data ClientsAsked : Type 0 where
  ListAll : ClientsAsked
  Nobody : ClientsAsked
  Named : List (List ℕ) → ClientsAsked
  Own : ClientsAsked
  KillAt : List ℕ → ClientsAsked
  Kill : Filter → ClientsAsked

-- what is asked of the server: of `Info` the sections that are named
pub data ServerAsked : Type 0 where
  Info : List (List ℕ) → ServerAsked
  Save : ServerAsked
  SaveLater : ServerAsked
  LastSaved : ServerAsked
  Shutdown : LastSave → ServerAsked
  Clients : ClientsAsked → ServerAsked
  Slowlog : SlowlogCommand → ServerAsked

-- what is asked of programs: a text, digests, or a digest or a text with a key and arguments
pub data ProgramAsked : Type 0 where
  Load : List ℕ → ProgramAsked
  Exists : List (List ℕ) → ProgramAsked
  Call : List ℕ → List ℕ → List (List ℕ) → ProgramAsked
  Eval : List ℕ → List ℕ → List (List ℕ) → ProgramAsked

-- a command
pub data Asked : Type 0 where
  OnKey : List ℕ → Act → Asked
  OnKeys : List (List ℕ) → KeysAct → Asked
  SetEach : List (List ℕ) → Asked
  Walk : WalkAsked → Asked
  Connection : ConnectionAsked → Asked
  Server : ServerAsked → Asked
  Program : ProgramAsked → Asked

-- why words are no command
pub data Fault : Type 0 where
  UnknownCommand : List ℕ → List (List ℕ) → Fault
  UnknownSub : Parent → List ℕ → Fault
  WrongSub : Parent → List ℕ → Fault
  WrongCount : Name → Fault
  WrongSubCount : Sub → Fault
  Syntax : Fault
  NotAnInteger : Fault
  DecrementOverflow : Fault
  OffsetOutOfRange : Fault
  LongKey : Fault
  LongValue : Fault
  BadExpire : Name → Fault
  ExpireOption : List ℕ → Fault
  NxWithOthers : Fault
  GtWithLt : Fault
  BadCursor : Fault
  BadIndex : Fault
  WideIndex : Fault
  BadVersion : Fault
  NoProtocol : Fault
  HelloOption : List ℕ → Fault
  BadClientName : Fault
  LongClientName : Fault
  WrongPassword : Fault
  NotAuthenticated : Fault
  NegativeKeys : Fault
  TooManyKeys : Fault
  ScriptShape : Fault
  NoScript : Fault
  NoDebug : Fault
  ClientType : List ℕ → Fault
  NoUser : List ℕ → Fault
  ClientNumber : Fault
  ListedNumber : Fault
  SlowlogCount : Fault
  WebRequest : Fault

-- ---- how the code shows them: the bytes are borrowed

abbrev pub texts : List (Bor (List ℕ)) → List (List ℕ)
texts words = map (λ word. word.now) words

abbrev pub text : Option (Bor (List ℕ)) → Option (List ℕ)
text word = option_map (λ w. w.now) word

abbrev pub condition_by : ShownCondition → Condition
condition_by condition.Always = Always
condition_by condition.IfAbsent = IfAbsent
condition_by condition.IfPresent = IfPresent
condition_by (condition.IfEqual value) = IfEqual value.now

abbrev pub act_by : KeyAct → Act
act_by act.Get = Get
act_by (act.Set value condition wants_old lifetime) = Set value.now (condition_by condition) wants_old lifetime
act_by (act.SetIfAbsent value) = SetIfAbsent value.now
act_by (act.GetAndSet value) = GetAndSet value.now
act_by act.GetAndDelete = GetAndDelete
act_by act.Length = Length
act_by act.TypeName = TypeName
act_by (act.GetAndExpire lifetime) = GetAndExpire lifetime
act_by (act.Expire at rule) = Expire at rule
act_by act.Persist = Persist
act_by (act.TimeLeft unit form) = TimeLeft unit form
act_by (act.Add by) = Add by
act_by (act.Append value) = Append value.now
act_by (act.GetRange start end) = GetRange start end
act_by (act.SetRange offset value) = SetRange offset value.now
act_by (act.DeleteIfEqual value) = DeleteIfEqual value.now

abbrev pub walk_by : WalkCommand → WalkAsked
walk_by walk.CountAll = CountAll
walk_by (walk.Scan cursor pattern count is_string) = Scan cursor (text pattern) count is_string
walk_by (walk.Keys pattern) = Keys pattern.now
walk_by walk.RandomKey = RandomKey
walk_by walk.RemoveAll = RemoveAll

abbrev pub connection_by : ConnectionCommand → ConnectionAsked
connection_by (connection.Ping word) = Ping (text word)
connection_by (connection.Echo word) = Echo word.now
connection_by connection.Quit = Quit
connection_by connection.Select = Select
connection_by (connection.Hello password name) = Hello (text password) (text name)
connection_by (connection.Auth password) = Auth password.now
connection_by (connection.AuthDefault password) = AuthDefault password.now
connection_by connection.ClientId = ClientId
connection_by connection.ClientName = ClientName
connection_by (connection.SetClientName name) = SetClientName name.now
connection_by (connection.SetClientInfo attribute value) = SetClientInfo attribute.now value.now
connection_by connection.Commands = Commands
connection_by connection.CommandCount = CommandCount
connection_by connection.CommandDocs = CommandDocs
connection_by (connection.Config parameters) = Config (texts parameters.now)
connection_by connection.Reset = Reset

abbrev pub filter_view : ClientFilter → Filter
filter_view filter = record {
  number = filter.number;
  address = text filter.address;
  local_address = text filter.local_address;
  is_normal = filter.is_normal;
  spares_own = filter.spares_own;
}

abbrev pub clients_by : ClientsCommand → ClientsAsked
clients_by clients.List = ListAll
clients_by clients.Nobody = Nobody
clients_by (clients.Named numbers) = Named (texts numbers.now)
clients_by clients.Own = Own
clients_by (clients.KillAt address) = KillAt address.now
clients_by (clients.Kill filter) = Kill (filter_view filter)

abbrev pub server_by : ServerCommand → ServerAsked
server_by (server.Info sections) = Info (texts sections.now)
server_by server.Save = Save
server_by server.SaveLater = SaveLater
server_by server.LastSaved = LastSaved
server_by (server.Shutdown save) = Shutdown save
server_by (server.Clients asked) = Clients (clients_by asked)
server_by (server.Slowlog asked) = Slowlog asked

abbrev pub program_by : ProgramCommand → ProgramAsked
program_by (program.Load script) = Load script.now
program_by (program.Exists digests) = Exists (texts digests.now)
program_by (program.Call digest key arguments) = Call digest.now key.now (texts arguments.now)
program_by (program.Eval script key arguments) = Eval script.now key.now (texts arguments.now)

abbrev pub asked_by : Command → Asked
asked_by (command.OnKey key act) = OnKey key.now (act_by act)
asked_by (command.OnKeys keys act) = OnKeys (texts keys.now) act
asked_by (command.SetEach words) = SetEach (texts words.now)
asked_by (command.Walk walk) = Walk (walk_by walk)
asked_by (command.Connection connection) = Connection (connection_by connection)
asked_by (command.Server server) = Server (server_by server)
asked_by (command.Program program) = Program (program_by program)

abbrev pub fault_by : CommandFault → Fault
fault_by (fault.UnknownCommand name args) = UnknownCommand name.now (texts args.now)
fault_by (fault.UnknownSub parent word) = UnknownSub parent word.now
fault_by (fault.WrongSub parent word) = WrongSub parent word.now
fault_by (fault.WrongCount name) = WrongCount name
fault_by (fault.WrongSubCount sub) = WrongSubCount sub
fault_by fault.Syntax = Syntax
fault_by fault.NotAnInteger = NotAnInteger
fault_by fault.DecrementOverflow = DecrementOverflow
fault_by fault.OffsetOutOfRange = OffsetOutOfRange
fault_by fault.LongKey = LongKey
fault_by fault.LongValue = LongValue
fault_by (fault.BadExpire name) = BadExpire name
fault_by (fault.ExpireOption option) = ExpireOption option.now
fault_by fault.NxWithOthers = NxWithOthers
fault_by fault.GtWithLt = GtWithLt
fault_by fault.BadCursor = BadCursor
fault_by fault.BadIndex = BadIndex
fault_by fault.WideIndex = WideIndex
fault_by fault.BadVersion = BadVersion
fault_by fault.NoProtocol = NoProtocol
fault_by (fault.HelloOption option) = HelloOption option.now
fault_by fault.BadClientName = BadClientName
fault_by fault.LongClientName = LongClientName
fault_by fault.WrongPassword = WrongPassword
fault_by fault.NotAuthenticated = NotAuthenticated
fault_by fault.NegativeKeys = NegativeKeys
fault_by fault.TooManyKeys = TooManyKeys
fault_by fault.ScriptShape = ScriptShape
fault_by fault.NoScript = NoScript
fault_by fault.NoDebug = NoDebug
fault_by (fault.ClientType word) = ClientType word.now
fault_by (fault.NoUser user) = NoUser user.now
fault_by fault.ClientNumber = ClientNumber
fault_by fault.ListedNumber = ListedNumber
fault_by fault.SlowlogCount = SlowlogCount
fault_by fault.WebRequest = WebRequest

-- what was read of words: a command, or a fault
abbrev pub answer_by : Result Command CommandFault → Result Asked Fault
answer_by (Ok command) = Ok (asked_by command)
answer_by (Err fault) = Err (fault_by fault)
