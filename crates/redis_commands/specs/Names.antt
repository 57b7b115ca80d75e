-- The names of the commands, and how many arguments each one takes.
use Rattle.std.specs.Prelude.{ℕ, Bool, List, [], ◌∷◌, ◌++◌, Option, length, codes, find, filter, map, nat_eq, nat_le}
use Rattle.std.specs.Str.{str_eq_ignore_ascii_case}
use Rattle.redis_commands.specs.declared.name.Arity.{Arity}
use Rattle.redis_commands.specs.declared.name.Arity.TheVariants.{Exactly, AtLeast, AtMost}
use Rattle.redis_commands.specs.declared.name.Name.{Name}
use Rattle.redis_commands.specs.declared.name.Name.TheVariants.{Key, Keys, Walk, Connection, Server, Program, Parent as A_parent}
use Rattle.redis_commands.specs.declared.name.KeyName.{KeyName}
use Rattle.redis_commands.specs.declared.name.KeyName.TheVariants as k
use Rattle.redis_commands.specs.declared.name.KeysName.{KeysName}
use Rattle.redis_commands.specs.declared.name.KeysName.TheVariants as ks
use Rattle.redis_commands.specs.declared.name.WalkName.{WalkName}
use Rattle.redis_commands.specs.declared.name.WalkName.TheVariants as w
use Rattle.redis_commands.specs.declared.name.ConnectionName.{ConnectionName}
use Rattle.redis_commands.specs.declared.name.ConnectionName.TheVariants as c
use Rattle.redis_commands.specs.declared.name.ServerName.{ServerName}
use Rattle.redis_commands.specs.declared.name.ServerName.TheVariants as s
use Rattle.redis_commands.specs.declared.name.ProgramName.{ProgramName}
use Rattle.redis_commands.specs.declared.name.ProgramName.TheVariants as p
use Rattle.redis_commands.specs.declared.name.Parent.{Parent}
use Rattle.redis_commands.specs.declared.name.Parent.TheVariants.{Client, Command, Config, Script, Slowlog}
use Rattle.redis_commands.specs.declared.name.Sub.{Sub}
use Rattle.redis_commands.specs.declared.name.Sub.TheVariants.{ClientId, ClientGetName, ClientSetName, ClientSetInfo, ClientList, ClientInfo, ClientKill, CommandCount, CommandDocs, ConfigGet, ScriptLoad, ScriptExists, SlowlogGet, SlowlogLen, SlowlogReset, SlowlogHelp}

-- ---- names, as error texts have them

abbrev pub key_name_text : KeyName → List ℕ
key_name_text k.Get = codes "get"
key_name_text k.Set = codes "set"
key_name_text k.SetNx = codes "setnx"
key_name_text k.GetSet = codes "getset"
key_name_text k.GetDel = codes "getdel"
key_name_text k.SetEx = codes "setex"
key_name_text k.PsetEx = codes "psetex"
key_name_text k.GetEx = codes "getex"
key_name_text k.Expire = codes "expire"
key_name_text k.Pexpire = codes "pexpire"
key_name_text k.ExpireAt = codes "expireat"
key_name_text k.PexpireAt = codes "pexpireat"
key_name_text k.Persist = codes "persist"
key_name_text k.Ttl = codes "ttl"
key_name_text k.Pttl = codes "pttl"
key_name_text k.ExpireTime = codes "expiretime"
key_name_text k.PexpireTime = codes "pexpiretime"
key_name_text k.StrLen = codes "strlen"
key_name_text k.Type = codes "type"
key_name_text k.Incr = codes "incr"
key_name_text k.Decr = codes "decr"
key_name_text k.IncrBy = codes "incrby"
key_name_text k.DecrBy = codes "decrby"
key_name_text k.Append = codes "append"
key_name_text k.GetRange = codes "getrange"
key_name_text k.Substr = codes "substr"
key_name_text k.SetRange = codes "setrange"
key_name_text k.DelIfEq = codes "delifeq"

abbrev pub keys_name_text : KeysName → List ℕ
keys_name_text ks.Mget = codes "mget"
keys_name_text ks.Mset = codes "mset"
keys_name_text ks.Del = codes "del"
keys_name_text ks.Unlink = codes "unlink"
keys_name_text ks.Exists = codes "exists"
keys_name_text ks.Touch = codes "touch"

abbrev pub walk_name_text : WalkName → List ℕ
walk_name_text w.DbSize = codes "dbsize"
walk_name_text w.Scan = codes "scan"
walk_name_text w.Keys = codes "keys"
walk_name_text w.RandomKey = codes "randomkey"
walk_name_text w.FlushAll = codes "flushall"
walk_name_text w.FlushDb = codes "flushdb"

abbrev pub connection_name_text : ConnectionName → List ℕ
connection_name_text c.Ping = codes "ping"
connection_name_text c.Echo = codes "echo"
connection_name_text c.Quit = codes "quit"
connection_name_text c.Select = codes "select"
connection_name_text c.Hello = codes "hello"
connection_name_text c.Auth = codes "auth"
connection_name_text c.Reset = codes "reset"

abbrev pub server_name_text : ServerName → List ℕ
server_name_text s.Info = codes "info"
server_name_text s.Save = codes "save"
server_name_text s.BgSave = codes "bgsave"
server_name_text s.LastSave = codes "lastsave"
server_name_text s.Shutdown = codes "shutdown"
server_name_text s.Debug = codes "debug"

abbrev pub program_name_text : ProgramName → List ℕ
program_name_text p.Eval = codes "eval"
program_name_text p.EvalSha = codes "evalsha"

abbrev pub parent_text : Parent → List ℕ
parent_text Client = codes "client"
parent_text Command = codes "command"
parent_text Config = codes "config"
parent_text Script = codes "script"
parent_text Slowlog = codes "slowlog"

abbrev pub parent_capitals : Parent → List ℕ
parent_capitals Client = codes "CLIENT"
parent_capitals Command = codes "COMMAND"
parent_capitals Config = codes "CONFIG"
parent_capitals Script = codes "SCRIPT"
parent_capitals Slowlog = codes "SLOWLOG"

abbrev pub name_text : Name → List ℕ
name_text (Key name) = key_name_text name
name_text (Keys name) = keys_name_text name
name_text (Walk name) = walk_name_text name
name_text (Connection name) = connection_name_text name
name_text (Server name) = server_name_text name
name_text (Program name) = program_name_text name
name_text (A_parent name) = parent_text name

abbrev pub sub_word : Sub → List ℕ
sub_word ClientId = codes "id"
sub_word ClientGetName = codes "getname"
sub_word ClientSetName = codes "setname"
sub_word ClientSetInfo = codes "setinfo"
sub_word ClientList = codes "list"
sub_word ClientInfo = codes "info"
sub_word ClientKill = codes "kill"
sub_word CommandCount = codes "count"
sub_word CommandDocs = codes "docs"
sub_word ConfigGet = codes "get"
sub_word ScriptLoad = codes "load"
sub_word ScriptExists = codes "exists"
sub_word SlowlogGet = codes "get"
sub_word SlowlogLen = codes "len"
sub_word SlowlogReset = codes "reset"
sub_word SlowlogHelp = codes "help"

abbrev pub parent_of : Sub → Parent
parent_of ClientId = Client
parent_of ClientGetName = Client
parent_of ClientSetName = Client
parent_of ClientSetInfo = Client
parent_of ClientList = Client
parent_of ClientInfo = Client
parent_of ClientKill = Client
parent_of CommandCount = Command
parent_of CommandDocs = Command
parent_of ConfigGet = Config
parent_of ScriptLoad = Script
parent_of ScriptExists = Script
parent_of SlowlogGet = Slowlog
parent_of SlowlogLen = Slowlog
parent_of SlowlogReset = Slowlog
parent_of SlowlogHelp = Slowlog

-- ---- how many arguments come after the name

abbrev pub key_arity : KeyName → Arity
key_arity k.Get = Exactly 1
key_arity k.Set = AtLeast 2
key_arity k.SetNx = Exactly 2
key_arity k.GetSet = Exactly 2
key_arity k.GetDel = Exactly 1
key_arity k.SetEx = Exactly 3
key_arity k.PsetEx = Exactly 3
key_arity k.GetEx = AtLeast 1
key_arity k.Expire = AtLeast 2
key_arity k.Pexpire = AtLeast 2
key_arity k.ExpireAt = AtLeast 2
key_arity k.PexpireAt = AtLeast 2
key_arity k.Persist = Exactly 1
key_arity k.Ttl = Exactly 1
key_arity k.Pttl = Exactly 1
key_arity k.ExpireTime = Exactly 1
key_arity k.PexpireTime = Exactly 1
key_arity k.StrLen = Exactly 1
key_arity k.Type = Exactly 1
key_arity k.Incr = Exactly 1
key_arity k.Decr = Exactly 1
key_arity k.IncrBy = Exactly 2
key_arity k.DecrBy = Exactly 2
key_arity k.Append = Exactly 2
key_arity k.GetRange = Exactly 3
key_arity k.Substr = Exactly 3
key_arity k.SetRange = Exactly 3
key_arity k.DelIfEq = Exactly 2

-- it sets a value with its deadline or a deadline alone, or tells it
abbrev pub IsOfDeadlines : KeyName → Type 0
IsOfDeadlines k.SetEx = Unit {0}
IsOfDeadlines k.PsetEx = Unit {0}
IsOfDeadlines k.Expire = Unit {0}
IsOfDeadlines k.Pexpire = Unit {0}
IsOfDeadlines k.ExpireAt = Unit {0}
IsOfDeadlines k.PexpireAt = Unit {0}
IsOfDeadlines k.Ttl = Unit {0}
IsOfDeadlines k.Pttl = Unit {0}
IsOfDeadlines k.ExpireTime = Unit {0}
IsOfDeadlines k.PexpireTime = Unit {0}
IsOfDeadlines name = ⊥

abbrev pub walk_arity : WalkName → Arity
walk_arity w.DbSize = Exactly 0
walk_arity w.Scan = AtLeast 1
walk_arity w.Keys = Exactly 1
walk_arity w.RandomKey = Exactly 0
walk_arity w.FlushAll = AtLeast 0
walk_arity w.FlushDb = AtLeast 0

abbrev pub keys_arity : KeysName → Arity
keys_arity ks.Mset = AtLeast 2
keys_arity name = AtLeast 1

abbrev pub connection_arity : ConnectionName → Arity
connection_arity c.Ping = AtMost 1
connection_arity c.Echo = Exactly 1
connection_arity c.Quit = AtLeast 0
connection_arity c.Select = Exactly 1
connection_arity c.Hello = AtLeast 0
connection_arity c.Auth = AtLeast 1
connection_arity c.Reset = Exactly 0

abbrev pub server_arity : ServerName → Arity
server_arity s.Info = AtLeast 0
server_arity s.Save = Exactly 0
server_arity s.BgSave = AtLeast 0
server_arity s.LastSave = Exactly 0
server_arity s.Shutdown = AtLeast 0
server_arity s.Debug = AtLeast 1

abbrev pub parent_arity : Parent → Arity
parent_arity Command = AtLeast 0
parent_arity name = AtLeast 1

abbrev pub arity_of : Name → Arity
arity_of (Key name) = key_arity name
arity_of (Keys name) = keys_arity name
arity_of (Walk name) = walk_arity name
arity_of (Connection name) = connection_arity name
arity_of (Server name) = server_arity name
arity_of (Program name) = AtLeast 2
arity_of (A_parent name) = parent_arity name

-- after the name of what a command does
abbrev pub sub_arity : Sub → Arity
sub_arity ClientId = Exactly 0
sub_arity ClientGetName = Exactly 0
sub_arity ClientSetName = Exactly 1
sub_arity ClientSetInfo = Exactly 2
sub_arity ClientList = AtLeast 0
sub_arity ClientInfo = Exactly 0
sub_arity ClientKill = AtLeast 1
sub_arity CommandCount = Exactly 0
sub_arity CommandDocs = AtLeast 0
sub_arity ConfigGet = AtLeast 1
sub_arity ScriptLoad = Exactly 1
sub_arity ScriptExists = AtLeast 1
sub_arity SlowlogGet = AtLeast 0
sub_arity SlowlogLen = Exactly 0
sub_arity SlowlogReset = Exactly 0
sub_arity SlowlogHelp = Exactly 0

abbrev pub is_allowed : Arity → ℕ → Bool
is_allowed (Exactly n) count = nat_eq count n
is_allowed (AtLeast n) count = nat_le n count
is_allowed (AtMost n) count = nat_le count n

-- ---- which command a word names, in any case

-- all names; those that clients send most come first
abbrev pub all_names : List Name
all_names =
    map Key (k.Get ∷ k.Set ∷ k.Incr ∷ k.IncrBy ∷ k.Decr ∷ k.DecrBy ∷ k.SetNx ∷ k.SetEx ∷ k.GetEx ∷ k.GetSet ∷ k.GetDel
    ∷ k.StrLen ∷ k.Append ∷ k.GetRange ∷ k.SetRange ∷ k.Substr ∷ k.Expire ∷ k.Pexpire ∷ k.PsetEx ∷ k.ExpireAt ∷ k.PexpireAt
    ∷ k.Type ∷ k.Ttl ∷ k.Pttl ∷ k.ExpireTime ∷ k.PexpireTime ∷ k.DelIfEq ∷ k.Persist ∷ [])
    ++ map Keys (ks.Mget ∷ ks.Mset ∷ ks.Del ∷ ks.Unlink ∷ ks.Exists ∷ ks.Touch ∷ [])
    ++ map Walk (w.DbSize ∷ w.Scan ∷ w.Keys ∷ w.RandomKey ∷ w.FlushAll ∷ w.FlushDb ∷ [])
    ++ map Connection (c.Ping ∷ c.Echo ∷ c.Quit ∷ c.Select ∷ c.Hello ∷ c.Auth ∷ c.Reset ∷ [])
    ++ map Server (s.Info ∷ s.Save ∷ s.BgSave ∷ s.LastSave ∷ s.Shutdown ∷ s.Debug ∷ [])
    ++ map Program (p.Eval ∷ p.EvalSha ∷ [])
    ++ map A_parent (Client ∷ Command ∷ Config ∷ Script ∷ Slowlog ∷ [])

abbrev pub first_named : List Name → List ℕ → Option Name
first_named names word = find (λ name. str_eq_ignore_ascii_case (name_text name) word) names

unfoldable pub named : List ℕ → Option Name
named word = first_named all_names word

-- the names of n letters
abbrev pub names_of_length : ℕ → List Name
names_of_length n = filter (λ name. nat_eq n (length (name_text name))) all_names

abbrev pub subs_of : Parent → List Sub
subs_of Client = ClientId ∷ ClientGetName ∷ ClientSetName ∷ ClientSetInfo ∷ ClientList ∷ ClientInfo ∷ ClientKill ∷ []
subs_of Command = CommandCount ∷ CommandDocs ∷ []
subs_of Config = ConfigGet ∷ []
subs_of Script = ScriptLoad ∷ ScriptExists ∷ []
subs_of Slowlog = SlowlogGet ∷ SlowlogLen ∷ SlowlogReset ∷ SlowlogHelp ∷ []

abbrev pub first_sub : List Sub → List ℕ → Option Sub
first_sub subs word = find (λ sub. str_eq_ignore_ascii_case (sub_word sub) word) subs

abbrev pub sub_named : Parent → List ℕ → Option Sub
sub_named parent word = first_sub (subs_of parent) word
