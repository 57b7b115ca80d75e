-- The command line of `mapd`: its options and defaults. How words are read is clap's (clap_builder 4.6).
use Rattle.std.specs.Prelude.{◌≡◌, ◌≢◌, ◌≤◌, ◌⊎◌, ◌↔◌, ◌&&◌, IsTrue, ℕ, ℤ, Bool, true, false, not, List, [], ◌∷◌, Some, codes, is_some, pos, option_and_then, option_map, string_bytes}
use Rattle.clap.specs.Words.{App, IsAmong, Row, Rule, fault_of, first_of, matches_of, new_rule, one_of}
use Rattle.clap.specs.Walk.{is_empty}
use Rattle.clap.specs.Simple.{new_shape}
use Rattle.clap.specs.Values.{kind_of}
use Rattle.clap.specs.declared.Error.{Error}
use Rattle.clap.specs.declared.error.ErrorKind.TheVariants.{OutOfMemory}
use Rattle.clap.specs.declared.builder.ArgAction.TheVariants.{Set}
use Rattle.clap.specs.declared.builder.ValueParser.TheVariants.{Signed}
use Rattle.map_commands.specs.CommandLine.{IsGiven, flag_option, given_size, size_option, spelled_size}
use Rattle.map_server.specs.declared.words.MapdWords.{MapdWords}
use Rattle.map_server.specs.declared.words.WordsFault.{WordsFault}
use Rattle.map_server.specs.declared.words.WordsFault.TheVariants as fault

-- an option that takes a text, the address of a port or the path of a file, and is wanted or not
abbrev pub text_option : List ℕ → Bool → Rule
text_option name wanted = record (new_rule name) { long = Some name; value_names = 1; action = Some Set; required = wanted }

-- an option that takes a number from 1 to a greatest one
abbrev pub range_option : List ℕ → ℤ → Rule
range_option name most = record (size_option name) { parser = Some (Signed (pos 1) most) }

-- the address of --listen is wanted or not
abbrev pub mapd_options : Bool → List Rule
mapd_options wanted =
    text_option (codes "listen") wanted
    ∷ text_option (codes "redis") false
    ∷ size_option (codes "stripes")
    ∷ range_option (codes "workers") (pos 32)
    ∷ range_option (codes "team") (pos 8)
    ∷ size_option (codes "sessions")
    ∷ range_option (codes "clients") (pos 65535)
    ∷ range_option (codes "idle") (pos 65535)
    ∷ size_option (codes "programs")
    ∷ text_option (codes "keep") false
    ∷ range_option (codes "keep-seconds") (pos 3600)
    ∷ range_option (codes "memory") (pos 65535)
    ∷ text_option (codes "password-file") false
    ∷ text_option (codes "metrics") false
    ∷ size_option (codes "slowlog-microseconds")
    ∷ flag_option (codes "keep-strict")
    ∷ []

-- a command without subcommands
abbrev pub mapd : Bool → App
mapd wanted = record { top = record (new_shape (codes "mapd")) { rules = mapd_options wanted; has_version = true }; subs = [] }

-- the words give --redis, and there is no fault in them if --listen is not wanted
abbrev pub gives_redis : List (List ℕ) → Bool
gives_redis words = is_empty (fault_of (mapd false) words) && is_some (first_of (codes "redis") (matches_of (mapd false) words))

-- the command line that reads the words: --listen is wanted, unless they give --redis
abbrev pub reader_of : List (List ℕ) → App
reader_of words = mapd (not (gives_redis words))

-- what the options ask for: each is given, or has its default; the addresses, the number of sessions, the idle seconds, the memory, the files
-- and the microseconds have none
pub record AsksFor (rows : List Row) (asked : MapdWords) : Type 0 where
  pub listen : option_map string_bytes asked.listen ≡ first_of (codes "listen") rows
  pub redis : option_map string_bytes asked.redis ≡ first_of (codes "redis") rows
  pub stripes : asked.stripes ≡ given_size rows (codes "stripes") 16
  pub workers : asked.workers ≡ given_size rows (codes "workers") 4
  pub team : asked.team ≡ given_size rows (codes "team") 1
  pub sessions : asked.sessions ≡ option_and_then spelled_size (one_of (codes "sessions") rows)
  pub clients : asked.clients ≡ given_size rows (codes "clients") 1000
  pub idle : asked.idle ≡ option_and_then spelled_size (one_of (codes "idle") rows)
  pub programs : asked.programs ≡ given_size rows (codes "programs") 65536
  pub memory : asked.memory ≡ option_and_then spelled_size (one_of (codes "memory") rows)
  pub keep : option_map string_bytes asked.keep ≡ first_of (codes "keep") rows
  pub keep_seconds : asked.keep_seconds ≡ given_size rows (codes "keep-seconds") 1
  pub password_file : option_map string_bytes asked.password_file ≡ first_of (codes "password-file") rows
  pub metrics : option_map string_bytes asked.metrics ≡ first_of (codes "metrics") rows
  pub slowlog_microseconds : asked.slowlog_microseconds ≡ option_and_then spelled_size (one_of (codes "slowlog-microseconds") rows)
  pub keep_strict : IsTrue asked.keep_strict ↔ IsGiven rows (codes "keep-strict")

-- what the words ask for, of which the first is the program's name: clap finds no fault in them, and they ask for this
abbrev pub AsksServer : List (List ℕ) → MapdWords → Type 0
AsksServer words asked = (fault_of (reader_of words) words ≡ []) × AsksFor (matches_of (reader_of words) words) asked

-- there is an address, a worker, a thread for each of its walks, a client, and a second between two saves; and there are not too many
pub record IsInRange (asked : MapdWords) : Type 0 where
  pub some_address : (is_some asked.listen ≡ true) ⊎ (is_some asked.redis ≡ true)
  pub some_worker : 1 ≤ asked.workers
  pub workers : asked.workers ≤ 32
  pub some_member : 1 ≤ asked.team
  pub team : asked.team ≤ 8
  pub some_client : 1 ≤ asked.clients
  pub clients : asked.clients ≤ 65535
  pub some_second : 1 ≤ asked.keep_seconds
  pub seconds : asked.keep_seconds ≤ 3600

-- the error is of a kind that clap gives these words; want of memory says nothing
abbrev pub IsWordsFault : List (List ℕ) → WordsFault → Type 0
IsWordsFault words (fault.Words error) = IsAmong (kind_of error) (fault_of (reader_of words) words)
IsWordsFault words fault.NoMemory = Unit {0}

-- clap's error as a fault: want of memory if it tells that, else the error
abbrev pub IsFaultOf : Error → WordsFault → Type 0
IsFaultOf error (fault.Words told) = (told ≡ error) × (kind_of error ≢ OutOfMemory)
IsFaultOf error fault.NoMemory = kind_of error ≡ OutOfMemory
