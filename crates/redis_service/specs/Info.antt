-- INFO: sections of lines, each with an empty line after it.
use Rattle.std.specs.Prelude.{ℕ, Bool, true, false, ◌||◌, List, [], ◌∷◌, ◌++◌, flat_map, decimal, nat_eq, codes, if◌then◌else◌}
use Rattle.std.specs.List.{list_any}
use Rattle.redis_service.specs.Counted.{Calls, calls_line}
use Rattle.redis_service.specs.declared.info.Info.{Info}
use Rattle.redis_service.specs.Lines.{line_end}
use Rattle.redis_service.specs.Server.{joined, is}

-- a line with a number
abbrev pub number_line : List ℕ → ℕ → List ℕ
number_line name number = (name ++ decimal number) ++ line_end

abbrev pub status_line : Bool → List ℕ
status_line true = codes "rdb_last_bgsave_status:err" ++ line_end
status_line false = codes "rdb_last_bgsave_status:ok" ++ line_end

abbrev pub server : Info → List ℕ
server info =
    joined (codes "# Server\r\nredis_version:7.0.15\r\nredis_mode:standalone\r\n" ∷ number_line (codes "uptime_in_seconds:") info.uptime ∷ line_end ∷ [])

abbrev pub clients : Info → List ℕ
clients info =
    joined (codes "# Clients\r\n" ∷ number_line (codes "connected_clients:") info.clients ∷ codes "blocked_clients:0\r\n\r\n" ∷ [])

abbrev pub memory : Info → List ℕ
memory info =
    joined (codes "# Memory\r\n" ∷ number_line (codes "used_memory:") info.memory ∷ number_line (codes "used_memory_rss:") info.memory
    ∷ codes "maxmemory:0\r\nmaxmemory_policy:noeviction\r\n\r\n" ∷ [])

abbrev pub persistence : Info → List ℕ
persistence info =
    joined (codes "# Persistence\r\nloading:0\r\n" ∷ number_line (codes "rdb_last_save_time:") info.last_save ∷ status_line info.is_failing ∷ line_end ∷ [])

abbrev pub stats : Info → List ℕ
stats info =
    joined (codes "# Stats\r\n" ∷ number_line (codes "total_connections_received:") info.clients_came
    ∷ number_line (codes "total_commands_processed:") info.commands ∷ number_line (codes "rejected_connections:") info.clients_refused
    ∷ number_line (codes "expired_keys:") info.expired ∷ number_line (codes "keyspace_hits:") info.hits
    ∷ number_line (codes "keyspace_misses:") info.misses ∷ line_end ∷ [])

-- the commands that came, by their kinds
abbrev pub command_stats : List Calls → List ℕ
command_stats calls = joined (codes "# Commandstats\r\n" ∷ flat_map calls_line calls ∷ line_end ∷ [])

-- memory was refused, if this isn't 0
abbrev pub refusal_line : ℕ → List ℕ
refusal_line refusals = if nat_eq refusals 0 then [] else number_line (codes "errorstat_OOM:count=") refusals

abbrev pub error_stats : Info → List ℕ
error_stats info = joined (codes "# Errorstats\r\n" ∷ refusal_line info.refusals ∷ line_end ∷ [])

abbrev pub replication : List ℕ
replication = codes "# Replication\r\nrole:master\r\nconnected_slaves:0\r\n\r\n"

abbrev pub keyspace : Info → List ℕ
keyspace info = joined (codes "# Keyspace\r\ndb0:keys=" ∷ decimal info.keys ∷ codes ",expires=0,avg_ttl=0\r\n\r\n" ∷ [])

-- the word names the section of this name, or all of them
abbrev pub names : List ℕ → List ℕ → Bool
names name word = is name word || is (codes "all") word || is (codes "default") word || is (codes "everything") word

-- the word names the section of this name, which is none of the default ones, or all of them
abbrev pub names_more : List ℕ → List ℕ → Bool
names_more name word = is name word || is (codes "all") word || is (codes "everything") word

-- the section of this name is asked for: by a word, or since there is none
abbrev pub is_shown : List ℕ → List (List ℕ) → Bool
is_shown name [] = true
is_shown name (word ∷ words) = list_any (names name) (word ∷ words)

abbrev pub shown : List ℕ → List (List ℕ) → List ℕ → List ℕ
shown name words section = if is_shown name words then section else []

abbrev pub shown_more : List ℕ → List (List ℕ) → List ℕ → List ℕ
shown_more name words section = if list_any (names_more name) words then section else []

-- the sections that the words ask for
unfoldable pub info_text : List (List ℕ) → Info → List Calls → List ℕ
info_text words info calls =
    joined (shown (codes "server") words (server info) ∷ shown (codes "clients") words (clients info)
    ∷ shown (codes "memory") words (memory info) ∷ shown (codes "persistence") words (persistence info)
    ∷ shown (codes "stats") words (stats info) ∷ shown (codes "replication") words replication
    ∷ shown_more (codes "commandstats") words (command_stats calls) ∷ shown (codes "errorstats") words (error_stats info)
    ∷ shown (codes "keyspace") words (keyspace info) ∷ [])
