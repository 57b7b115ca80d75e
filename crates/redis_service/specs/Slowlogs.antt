-- Commands that took long. Other workers' clients make some too: which of them are kept is any list here.
use Rattle.std.specs.Prelude.{◌≡◌, ◌≤◌, ℕ, List, ◌++◌, length, flat_map, Option, Some, None, codes}
use Rattle.resp.specs.Replies.{array_head, value_bytes}
use Rattle.server_state.specs.declared.slowlog.SlowEntry.{SlowEntry}
use Rattle.server_state.specs.declared.slowlog.SlowWord.{SlowWord}
use Rattle.redis_commands.specs.declared.command.SlowlogCommand.{SlowlogCommand}
use Rattle.redis_commands.specs.declared.command.SlowlogCommand.TheVariants.{Get, Length, Reset, Help}
use Rattle.redis_service.specs.Connections.{SaysIfRoom}
use Rattle.redis_service.specs.Texts.{ok_line, count_line}

abbrev pub help_lines : List ℕ
help_lines =
    codes "*12\r\n+SLOWLOG <subcommand> [<arg> [value] [opt] ...]. Subcommands are:\r\n+GET [<count>]\r\n+    Return top <count> entries from the slowlog (default: 10, -1 mean all).\r\n+    Entries are made of:\r\n+    id, timestamp, time in microseconds, arguments array, client IP and port,\r\n+    client name\r\n+LEN\r\n+    Return the length of the slowlog.\r\n+RESET\r\n+    Reset the slowlog.\r\n+HELP\r\n+    Prints this help.\r\n"

-- the words of a command, cut short
abbrev pub words_bytes : List SlowWord → List ℕ
words_bytes words = array_head (length words) ++ flat_map (λ word. value_bytes word.text.items) words

-- a command that took long: its number, its time, how long it took, its words, and its client's address and name
abbrev pub entry_bytes : SlowEntry → List ℕ
entry_bytes entry =
    array_head 6 ++ count_line entry.number ++ count_line entry.time ++ count_line entry.microseconds ++ words_bytes entry.words.items
    ++ value_bytes entry.address.items ++ value_bytes entry.name.items

abbrev pub entries_bytes : List SlowEntry → List ℕ
entries_bytes entries = array_head (length entries) ++ flat_map entry_bytes entries

-- no more than are asked for
abbrev pub IsWithin : Option ℕ → ℕ → Type 0
IsWithin None count = Unit {0}
IsWithin (Some most) count = count ≤ most

-- some commands, or that memory to copy them was refused
abbrev pub Tells : Option ℕ → List ℕ → Type 0
Tells count written = (entries : List SlowEntry) × IsWithin count (length entries) × SaysIfRoom (entries_bytes entries) written

abbrev pub AnswersSlowlog : SlowlogCommand → List ℕ → Type 0
AnswersSlowlog (Get count) written = Tells count written
AnswersSlowlog Length written = (count : ℕ) × (written ≡ count_line count)
AnswersSlowlog Reset written = written ≡ ok_line
AnswersSlowlog Help written = written ≡ help_lines
