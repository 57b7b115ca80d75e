-- The table of the commands: what the arguments of each one ask for. How many there may be says `arity_of`.
use Rattle.std.specs.Prelude.{ℕ, zero, suc, ◌+◌, ◌%◌, Bool, true, false, ◌||◌, not, List, [], ◌∷◌, length, drop, codes, ℤ, pos, negsuc, neg_ℤ, Option, Some, None, Result, Ok, Err, unwrap_or, nat_eq, nat_lt, max, if◌then◌else◌}
use Rattle.std.specs.List.{list_any}
use Rattle.bpf_model.specs.declared.limits.TheConstants.{KEY_BYTES, VALUE_BYTES}
use Rattle.redis_commands.specs.declared.name.Name.{Name}
use Rattle.redis_commands.specs.declared.name.Name.TheVariants as n
use Rattle.redis_commands.specs.declared.name.KeyName.{KeyName}
use Rattle.redis_commands.specs.declared.name.KeyName.TheVariants as k
use Rattle.redis_commands.specs.declared.name.KeysName.{KeysName}
use Rattle.redis_commands.specs.declared.name.KeysName.TheVariants as ks
use Rattle.redis_commands.specs.declared.name.WalkName.{WalkName}
use Rattle.redis_commands.specs.declared.name.WalkName.TheVariants as w
use Rattle.redis_commands.specs.declared.name.ConnectionName.{ConnectionName}
use Rattle.redis_commands.specs.declared.name.ConnectionName.TheVariants as c
use Rattle.redis_commands.specs.declared.name.ServerName.{ServerName}
use Rattle.redis_commands.specs.declared.name.ServerName.TheVariants as sv
use Rattle.redis_commands.specs.declared.name.ProgramName.{ProgramName}
use Rattle.redis_commands.specs.declared.name.ProgramName.TheVariants as p
use Rattle.redis_commands.specs.declared.name.Parent.{Parent}
use Rattle.redis_commands.specs.declared.name.Sub.{Sub}
use Rattle.redis_commands.specs.declared.name.Sub.TheVariants as s
use Rattle.redis_commands.specs.declared.command.KeysAct.{KeysAct}
use Rattle.redis_commands.specs.declared.command.KeysAct.TheVariants.{GetEach, Delete, CountPresent}
use Rattle.redis_commands.specs.Names.{named, arity_of, is_allowed, sub_named, sub_arity}
use Rattle.redis_commands.specs.declared.command.Lifetime.TheVariants as life
use Rattle.redis_commands.specs.declared.command.ExpireRule.{ExpireRule}
use Rattle.redis_commands.specs.declared.command.TimeUnit.{TimeUnit}
use Rattle.redis_commands.specs.declared.command.TimeUnit.TheVariants.{Seconds, Millis}
use Rattle.redis_commands.specs.declared.command.TimeForm.{TimeForm}
use Rattle.redis_commands.specs.declared.command.TimeForm.TheVariants as form
use Rattle.redis_commands.specs.declared.command.LastSave.TheVariants as last
use Rattle.redis_commands.specs.Numbers.{integer_of, natural_of, fits_64, fits_32}
use Rattle.redis_commands.specs.Words.{word, is, given, number, number_from_0}
use Rattle.redis_commands.specs.Deadlines.{deadline, deadline_above_0, rule_of}
use Rattle.redis_commands.specs.Options.{set_options, lifetime, scan_options, short_name, client_name, is_default, hello_options}
use Rattle.redis_commands.specs.Options.Term.{Same, Endless}
use Rattle.redis_commands.specs.Clients.{kill, list, slow_get}
use Rattle.redis_commands.specs.Commands.ClientsAsked.{Own}
use Rattle.redis_commands.specs.declared.command.SlowlogCommand.TheVariants as slow
use Rattle.redis_commands.specs.Commands.{Asked, Act, WalkAsked, ConnectionAsked, ServerAsked, ProgramAsked, Fault}
use Rattle.redis_commands.specs.Commands.Asked.{OnKey, OnKeys, SetEach, Walk, Connection, Server, Program}
use Rattle.redis_commands.specs.Commands.Act.{Get, Set, SetIfAbsent, GetAndSet, GetAndDelete, Length, TypeName, GetAndExpire, Expire, Persist, TimeLeft, Add, Append, GetRange, SetRange, DeleteIfEqual}
use Rattle.redis_commands.specs.Commands.WalkAsked.{CountAll, Scan, Keys, RandomKey, RemoveAll}
use Rattle.redis_commands.specs.Commands.ConnectionAsked.{Ping, Echo, Quit, Select, Hello, Auth, AuthDefault, ClientId, ClientName, SetClientName, SetClientInfo, Commands, CommandCount, CommandDocs, Config, Reset}
use Rattle.redis_commands.specs.Commands.ServerAsked.{Info, Save, SaveLater, LastSaved, Shutdown, Clients, Slowlog}
use Rattle.redis_commands.specs.Commands.ProgramAsked.{Load, Exists, Call, Eval}
use Rattle.redis_commands.specs.Commands.Condition.{Always, IfEqual}
use Rattle.redis_commands.specs.Commands.Fault.{UnknownCommand, UnknownSub, WrongCount, WrongSubCount, Syntax, DecrementOverflow, OffsetOutOfRange, LongKey, LongValue, BadCursor, BadIndex, WideIndex, BadVersion, NoProtocol, WrongPassword, NotAuthenticated, NegativeKeys, TooManyKeys, ScriptShape, NoScript, NoDebug, WebRequest}

-- ---- commands of one key

-- the longest value that an act names or makes
abbrev pub longest : Act → ℕ
longest (Set value (IfEqual expected) wants_old lifetime) = max (length value) (length expected)
longest (Set value condition wants_old lifetime) = length value
longest (SetIfAbsent value) = length value
longest (GetAndSet value) = length value
longest (Append value) = length value
longest (SetRange offset []) = 0
longest (SetRange offset (b ∷ bytes)) = offset + suc (length bytes)
longest (DeleteIfEqual value) = length value
longest act = 0

-- the act on the key, if both are within the limits
abbrev pub on_key : List ℕ → Act → Result Asked Fault
on_key key act =
    if nat_lt KEY_BYTES (length key) then Err LongKey
    else (if nat_lt VALUE_BYTES (longest act) then Err LongValue else Ok (OnKey key act))

-- the number that is taken away, turned round
abbrev pub turned : ℤ → Result ℤ Fault
turned n = if fits_64 (neg_ℤ n) then Ok (neg_ℤ n) else Err DecrementOverflow

-- a value that stays for this number of seconds or milliseconds
abbrev pub set_for : KeyName → ℕ → TimeUnit → List (List ℕ) → Result Asked Fault
set_for name now unit args =
    given (number (word 1 args)) (λ time. given (deadline_above_0 (n.Key name) now unit form.Left time)
    (λ at. on_key (word 0 args) (Set (word 2 args) Always false (life.Until at))))

-- the deadline that a number tells, by this rule
abbrev pub expire_by : KeyName → ℕ → TimeUnit → TimeForm → ExpireRule → List (List ℕ) → Result Asked Fault
expire_by name now unit form rule args =
    given (number (word 1 args)) (λ time. given (deadline (n.Key name) now unit form time)
    (λ at. on_key (word 0 args) (Expire at rule)))

-- the same, by the rule that the words after the number say
abbrev pub expire : KeyName → ℕ → TimeUnit → TimeForm → List (List ℕ) → Result Asked Fault
expire name now unit form args = given (rule_of (drop 2 args)) (λ rule. expire_by name now unit form rule args)

-- at the time `now`
abbrev pub asked_of_key : ℕ → KeyName → List (List ℕ) → Result Asked Fault
asked_of_key now k.Get args = on_key (word 0 args) Get
asked_of_key now k.Set args =
    given (set_options k.Set (drop 2 args)) (λ o. given (lifetime k.Set now (unwrap_or o.term Endless))
    (λ lifetime. on_key (word 0 args) (Set (word 1 args) o.condition o.wants_old lifetime)))
asked_of_key now k.SetNx args = on_key (word 0 args) (SetIfAbsent (word 1 args))
asked_of_key now k.SetEx args = set_for k.SetEx now Seconds args
asked_of_key now k.PsetEx args = set_for k.PsetEx now Millis args
asked_of_key now k.GetSet args = on_key (word 0 args) (GetAndSet (word 1 args))
asked_of_key now k.GetDel args = on_key (word 0 args) GetAndDelete
asked_of_key now k.GetEx args =
    given (set_options k.GetEx (drop 1 args)) (λ o. given (lifetime k.GetEx now (unwrap_or o.term Same))
    (λ lifetime. on_key (word 0 args) (GetAndExpire lifetime)))
asked_of_key now k.Expire args = expire k.Expire now Seconds form.Left args
asked_of_key now k.Pexpire args = expire k.Pexpire now Millis form.Left args
asked_of_key now k.ExpireAt args = expire k.ExpireAt now Seconds form.Until args
asked_of_key now k.PexpireAt args = expire k.PexpireAt now Millis form.Until args
asked_of_key now k.Persist args = on_key (word 0 args) Persist
asked_of_key now k.Ttl args = on_key (word 0 args) (TimeLeft Seconds form.Left)
asked_of_key now k.Pttl args = on_key (word 0 args) (TimeLeft Millis form.Left)
asked_of_key now k.ExpireTime args = on_key (word 0 args) (TimeLeft Seconds form.Until)
asked_of_key now k.PexpireTime args = on_key (word 0 args) (TimeLeft Millis form.Until)
asked_of_key now k.StrLen args = on_key (word 0 args) Length
asked_of_key now k.Type args = on_key (word 0 args) TypeName
asked_of_key now k.Incr args = on_key (word 0 args) (Add (pos 1))
asked_of_key now k.Decr args = on_key (word 0 args) (Add (negsuc 0))
asked_of_key now k.IncrBy args = given (number (word 1 args)) (λ by. on_key (word 0 args) (Add by))
asked_of_key now k.DecrBy args =
    given (number (word 1 args)) (λ n. given (turned n) (λ by. on_key (word 0 args) (Add by)))
asked_of_key now k.Append args = on_key (word 0 args) (Append (word 1 args))
asked_of_key now k.GetRange args =
    given (number (word 1 args)) (λ start. given (number (word 2 args)) (λ end. on_key (word 0 args) (GetRange start end)))
asked_of_key now k.Substr args =
    given (number (word 1 args)) (λ start. given (number (word 2 args)) (λ end. on_key (word 0 args) (GetRange start end)))
asked_of_key now k.SetRange args =
    given (number (word 1 args)) (λ n. given (number_from_0 OffsetOutOfRange n)
    (λ offset. on_key (word 0 args) (SetRange offset (word 2 args))))
asked_of_key now k.DelIfEq args = on_key (word 0 args) (DeleteIfEqual (word 1 args))

-- ---- commands of several keys

abbrev pub has_long_key : List (List ℕ) → Bool
has_long_key [] = false
has_long_key (key ∷ keys) = nat_lt KEY_BYTES (length key) || has_long_key keys

abbrev pub on_keys : List (List ℕ) → KeysAct → Result Asked Fault
on_keys keys act = if has_long_key keys then Err LongKey else Ok (OnKeys keys act)

-- keys and values by turns: the first word that is too long
abbrev pub long_word : List (List ℕ) → Option Fault
long_word [] = None
long_word (key ∷ []) = None
long_word (key ∷ value ∷ more) =
    if nat_lt KEY_BYTES (length key) then Some LongKey
    else (if nat_lt VALUE_BYTES (length value) then Some LongValue else long_word more)

abbrev pub set_each : List (List ℕ) → Result Asked Fault
set_each words =
    if nat_eq (length words % 2) 1 then Err (WrongCount (n.Keys ks.Mset))
    else elim (long_word words) [ None ↦ Ok (SetEach words) | Some fault ↦ Err fault ]

abbrev pub asked_of_keys : KeysName → List (List ℕ) → Result Asked Fault
asked_of_keys ks.Mget args = on_keys args GetEach
asked_of_keys ks.Mset args = set_each args
asked_of_keys ks.Del args = on_keys args Delete
asked_of_keys ks.Unlink args = on_keys args Delete
asked_of_keys ks.Exists args = on_keys args CountPresent
asked_of_keys ks.Touch args = on_keys args CountPresent

-- ---- commands of the whole map

abbrev pub cursor_of : List ℕ → Result ℕ Fault
cursor_of text = elim (natural_of text) [ None ↦ Err BadCursor | Some cursor ↦ Ok cursor ]

-- alone, or with ASYNC or SYNC
abbrev pub flush : List (List ℕ) → Result WalkAsked Fault
flush [] = Ok RemoveAll
flush (option ∷ []) = if is (codes "async") option || is (codes "sync") option then Ok RemoveAll else Err Syntax
flush options = Err Syntax

abbrev pub scan : List (List ℕ) → Result WalkAsked Fault
scan args =
    given (cursor_of (word 0 args)) (λ cursor. given (scan_options (drop 1 args))
    (λ o. Ok (Scan cursor o.pattern o.count o.is_string)))

abbrev pub walk_of : WalkName → List (List ℕ) → Result WalkAsked Fault
walk_of w.DbSize args = Ok CountAll
walk_of w.Scan args = scan args
walk_of w.Keys args = Ok (Keys (word 0 args))
walk_of w.RandomKey args = Ok RandomKey
walk_of w.FlushAll args = flush args
walk_of w.FlushDb args = flush args

-- ---- commands of the connection

abbrev pub is_two : ℤ → Bool
is_two (pos n) = nat_eq n 2
is_two (negsuc n) = false

abbrev pub hello_as : Option (List ℕ) → Option (List ℕ) → Result ConnectionAsked Fault
hello_as password None = Ok (Hello password None)
hello_as password (Some name) = given (short_name name) (λ name. Ok (Hello password (Some name)))

-- version 2, or none
abbrev pub hello : List (List ℕ) → Result ConnectionAsked Fault
hello [] = Ok (Hello None None)
hello (version ∷ options) = elim (integer_of version) [
  | None ↦ Err BadVersion
  | Some n ↦ if is_two n then
      given (hello_options options)
      (λ o. if o.is_stranger then Err WrongPassword else hello_as o.password o.name)
      else Err NoProtocol
]

-- there is one user
abbrev pub auth : List (List ℕ) → Result ConnectionAsked Fault
auth (password ∷ []) = Ok (Auth password)
auth (user ∷ password ∷ []) = if is_default user then Ok (AuthDefault password) else Err WrongPassword
auth args = Err Syntax

-- the one map has the number 0
abbrev pub select : ℤ → Result ConnectionAsked Fault
select (pos zero) = Ok Select
select n = if fits_32 n then Err BadIndex else Err WideIndex

abbrev pub ping : List (List ℕ) → ConnectionAsked
ping [] = Ping None
ping (text ∷ more) = Ping (Some text)

abbrev pub connection_of : ConnectionName → List (List ℕ) → Result ConnectionAsked Fault
connection_of c.Ping args = Ok (ping args)
connection_of c.Echo args = Ok (Echo (word 0 args))
connection_of c.Quit args = Ok Quit
connection_of c.Select args = given (number (word 0 args)) select
connection_of c.Hello args = hello args
connection_of c.Auth args = auth args
connection_of c.Reset args = Ok Reset

-- ---- commands of the server

-- BGSAVE: alone, or with SCHEDULE
abbrev pub save_later : List (List ℕ) → Result ServerAsked Fault
save_later [] = Ok SaveLater
save_later (option ∷ []) = if is (codes "schedule") option then Ok SaveLater else Err Syntax
save_later options = Err Syntax

-- the option of SHUTDOWN
abbrev pub last_save : List ℕ → Result ServerAsked Fault
last_save option =
    if is (codes "save") option then Ok (Shutdown last.Always)
    else (if is (codes "nosave") option then Ok (Shutdown last.Never) else Err Syntax)

-- SHUTDOWN: alone, or with SAVE or NOSAVE
abbrev pub shutdown : List (List ℕ) → Result ServerAsked Fault
shutdown [] = Ok (Shutdown last.IfKept)
shutdown (option ∷ []) = last_save option
shutdown options = Err Syntax

abbrev pub server_of : ServerName → List (List ℕ) → Result ServerAsked Fault
server_of sv.Info args = Ok (Info args)
server_of sv.Save args = Ok Save
server_of sv.BgSave args = save_later args
server_of sv.LastSave args = Ok LastSaved
server_of sv.Shutdown args = shutdown args
server_of sv.Debug args = Err NoDebug

-- ---- commands of programs

abbrev pub has_long_value : List (List ℕ) → Bool
has_long_value arguments = list_any (λ argument. nat_lt VALUE_BYTES (length argument)) arguments

-- the one key of a program and its arguments, if they are within the limits; this number of the words are said to be keys
abbrev pub call_with : ℤ → List (List ℕ) → Result (List ℕ × List (List ℕ)) Fault
call_with (negsuc n) words = Err NegativeKeys
call_with (pos n) words =
    if nat_lt (length words) n then Err TooManyKeys
    else (if not (nat_eq n 1) then Err ScriptShape
    else (if nat_lt KEY_BYTES (length (word 0 words)) then Err LongKey
    else (if has_long_value (drop 1 words) then Err LongValue else Ok (word 0 words, drop 1 words))))

abbrev pub program_of : ProgramName → List (List ℕ) → Result ProgramAsked Fault
program_of p.Eval args =
    given (number (word 1 args)) (λ n. given (call_with n (drop 2 args)) (λ call. Ok (Eval (word 0 args) call.0 call.1)))
program_of p.EvalSha args =
    if nat_eq (length (word 0 args)) 40 then
    given (number (word 1 args)) (λ n. given (call_with n (drop 2 args)) (λ call. Ok (Call (word 0 args) call.0 call.1)))
    else Err NoScript

-- ---- commands whose first argument names what they do

-- by the word that named it
abbrev pub asked_of_sub : Sub → List ℕ → List (List ℕ) → Result Asked Fault
asked_of_sub s.ClientId first args = Ok (Connection ClientId)
asked_of_sub s.ClientGetName first args = Ok (Connection ClientName)
asked_of_sub s.ClientSetName first args = given (client_name (word 0 args)) (λ name. Ok (Connection (SetClientName name)))
asked_of_sub s.ClientSetInfo first args = Ok (Connection (SetClientInfo (word 0 args) (word 1 args)))
asked_of_sub s.ClientList first args = given (list args) (λ asked. Ok (Server (Clients asked)))
asked_of_sub s.ClientInfo first args = Ok (Server (Clients Own))
asked_of_sub s.ClientKill first args = given (kill args) (λ asked. Ok (Server (Clients asked)))
asked_of_sub s.CommandCount first args = Ok (Connection CommandCount)
asked_of_sub s.CommandDocs first args = Ok (Connection CommandDocs)
asked_of_sub s.ConfigGet first args = Ok (Connection (Config args))
asked_of_sub s.ScriptLoad first args = Ok (Program (Load (word 0 args)))
asked_of_sub s.ScriptExists first args = Ok (Program (Exists args))
asked_of_sub s.SlowlogGet first args = given (slow_get first args) (λ asked. Ok (Server (Slowlog asked)))
asked_of_sub s.SlowlogLen first args = Ok (Server (Slowlog slow.Length))
asked_of_sub s.SlowlogReset first args = Ok (Server (Slowlog slow.Reset))
asked_of_sub s.SlowlogHelp first args = Ok (Server (Slowlog slow.Help))

-- COMMAND may stand alone
abbrev pub asked_of_parent : Parent → List (List ℕ) → Result Asked Fault
asked_of_parent parent [] = Ok (Connection Commands)
asked_of_parent parent (first ∷ args) = elim (sub_named parent first) [
  | None ↦ Err (UnknownSub parent first)
  | Some sub ↦ if is_allowed (sub_arity sub) (length args) then asked_of_sub sub first args else Err (WrongSubCount sub)
]

-- ---- all commands

abbrev pub asked_as : ℕ → Name → List (List ℕ) → Result Asked Fault
asked_as now (n.Key name) args = asked_of_key now name args
asked_as now (n.Keys name) args = asked_of_keys name args
asked_as now (n.Walk name) args = given (walk_of name args) (λ walk. Ok (Walk walk))
asked_as now (n.Connection name) args = given (connection_of name args) (λ connection. Ok (Connection connection))
asked_as now (n.Server name) args = given (server_of name args) (λ server. Ok (Server server))
asked_as now (n.Program name) args = given (program_of name args) (λ program. Ok (Program program))
asked_as now (n.Parent parent) args = asked_of_parent parent args

-- a line of a browser's request begins so
abbrev pub is_web : List ℕ → Bool
is_web first = is (codes "post") first || is (codes "host:") first

-- what words ask for at the time `now`, in milliseconds since the epoch; the first one names a command
abbrev pub asked_of : ℕ → List (List ℕ) → Result Asked Fault
asked_of now [] = Err (UnknownCommand [] [])
asked_of now (first ∷ args) = elim (named first) [
  | None ↦ if is_web first then Err WebRequest else Err (UnknownCommand first args)
  | Some name ↦ if is_allowed (arity_of name) (length args) then asked_as now name args else Err (WrongCount name)
]

-- ---- a client that has not authenticated

-- it may call these commands
abbrev pub is_open : ConnectionName → Bool
is_open c.Ping = true
is_open c.Quit = true
is_open c.Hello = true
is_open c.Auth = true
is_open c.Reset = true
is_open name = false

-- why it may not call another one; a fault of a second name, or of how many arguments follow it, comes first
abbrev pub closed_parent : Parent → List (List ℕ) → Fault
closed_parent parent [] = NotAuthenticated
closed_parent parent (first ∷ args) = elim (sub_named parent first) [
  | None ↦ UnknownSub parent first
  | Some sub ↦ if is_allowed (sub_arity sub) (length args) then NotAuthenticated else WrongSubCount sub
]

abbrev pub closed_server : ServerName → Fault
closed_server sv.Debug = NoDebug
closed_server name = NotAuthenticated

abbrev pub asked_if_open : Name → List (List ℕ) → Result Asked Fault
asked_if_open (n.Connection name) args =
    if is_open name then given (connection_of name args) (λ connection. Ok (Connection connection)) else Err NotAuthenticated
asked_if_open (n.Server name) args = Err (closed_server name)
asked_if_open (n.Parent parent) args = Err (closed_parent parent args)
asked_if_open name args = Err NotAuthenticated

-- what its words ask for
abbrev pub asked_before_auth : List (List ℕ) → Result Asked Fault
asked_before_auth [] = Err (UnknownCommand [] [])
asked_before_auth (first ∷ args) = elim (named first) [
  | None ↦ if is_web first then Err WebRequest else Err (UnknownCommand first args)
  | Some name ↦ if is_allowed (arity_of name) (length args) then asked_if_open name args else Err (WrongCount name)
]
