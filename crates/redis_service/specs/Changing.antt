-- Which commands may change the map or the programs, and what is said of one that is refused for that.
use Rattle.std.specs.Prelude.{ℕ, List, Bool, true, false, Result, Ok, Err, codes}
use Rattle.resp.specs.Replies.{error_bytes}
use Rattle.redis_commands.specs.declared.command.KeysAct.{KeysAct}
use Rattle.redis_commands.specs.declared.command.KeysAct.TheVariants.{Delete}
use Rattle.redis_commands.specs.declared.command.Lifetime.TheVariants.{Kept}
use Rattle.redis_commands.specs.Commands.{Act, WalkAsked, ProgramAsked, Asked, Fault}
use Rattle.redis_commands.specs.Commands.Act.{Get, Length, TypeName, GetAndExpire, TimeLeft, GetRange}
use Rattle.redis_commands.specs.Commands.WalkAsked.{RemoveAll}
use Rattle.redis_commands.specs.Commands.ProgramAsked.{Exists}
use Rattle.redis_commands.specs.Commands.Asked.{OnKey, OnKeys, SetEach, Walk, Program}

-- all but those that only look. GETEX without options leaves the deadline as it is
abbrev pub act_changes : Act → Bool
act_changes Get = false
act_changes Length = false
act_changes TypeName = false
act_changes (GetAndExpire Kept) = false
act_changes (TimeLeft unit form) = false
act_changes (GetRange start end) = false
act_changes act = true

abbrev pub keys_change : KeysAct → Bool
keys_change Delete = true
keys_change act = false

abbrev pub walk_changes : WalkAsked → Bool
walk_changes RemoveAll = true
walk_changes walk = false

-- a script may change what it is called on, and its text is kept
abbrev pub program_changes : ProgramAsked → Bool
program_changes (Exists digests) = false
program_changes program = true

abbrev pub may_change : Asked → Bool
may_change (OnKey key act) = act_changes act
may_change (OnKeys keys act) = keys_change act
may_change (SetEach words) = true
may_change (Walk walk) = walk_changes walk
may_change (Program program) = program_changes program
may_change asked = false

-- what was read is such a command
abbrev pub changes : Result Asked Fault → Bool
changes (Ok asked) = may_change asked
changes (Err fault) = false

-- what is said of a command that is refused
abbrev pub not_kept_line : List ℕ
not_kept_line =
    error_bytes (codes "MISCONF The map cannot be written to its file, and this server was started with --keep-strict: commands that may change the map are refused.")
