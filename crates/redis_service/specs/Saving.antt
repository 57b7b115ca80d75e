-- Commands of the server. Other threads write the map to its file, and count: what they did is any number here.
use Rattle.std.specs.Prelude.{◌≡◌, ◌⊎◌, ℕ, Bool, true, false, List, [], Option, Some, None, codes}
use Rattle.bin_stripes.specs.Passes.{PassState}
use Rattle.key_walks.specs.Walks.{CountsAll}
use Rattle.resp.specs.Replies.{simple_bytes, error_bytes, value_bytes}
use Rattle.server_state.specs.declared.saves.SaveFate.{SaveFate}
use Rattle.server_state.specs.declared.saves.SaveFate.TheVariants.{Saved, Failed, Waits}
use Rattle.redis_commands.specs.declared.command.LastSave.{LastSave}
use Rattle.redis_commands.specs.declared.command.LastSave.TheVariants.{Always}
use Rattle.redis_commands.specs.Commands.{ServerAsked}
use Rattle.redis_commands.specs.Commands.ServerAsked.{Info, Save, SaveLater, LastSaved, Shutdown, Clients, Slowlog}
use Rattle.redis_service.specs.declared.info.Info.{Info as Numbers}
use Rattle.redis_service.specs.Counted.{Calls}
use Rattle.redis_service.specs.Info.{info_text}
use Rattle.redis_service.specs.Clients.{AnswersClients}
use Rattle.redis_service.specs.Slowlogs.{AnswersSlowlog}
use Rattle.redis_service.specs.States.{TalkState}
use Rattle.redis_service.specs.Connections.{Says, SaysIfRoom}
use Rattle.redis_service.specs.Texts.{ok_line, count_line}

-- the server was started without a file
abbrev pub no_file_line : List ℕ
no_file_line = error_bytes (codes "ERR the server keeps no file: it was started without --keep")

-- SAVE: what came of the save, or none if the server keeps no file
abbrev pub save_line : Option SaveFate → List ℕ
save_line None = no_file_line
save_line (Some Saved) = ok_line
save_line (Some Failed) = error_bytes (codes "ERR the map could not be written to its file")
save_line (Some Waits) = error_bytes (codes "ERR the map is not written to its file yet")

-- BGSAVE: whether the server keeps a file
abbrev pub later_line : Bool → List ℕ
later_line true = simple_bytes (codes "Background saving started")
later_line false = no_file_line

-- INFO counts the keys first
abbrev pub AnswersInfo : PassState → List (List ℕ) → List ℕ → PassState → Type 0
AnswersInfo old sections written new =
    (numbers : Numbers) × (calls : List Calls) × CountsAll old numbers.keys new × SaysIfRoom (value_bytes (info_text sections numbers calls)) written

-- SHUTDOWN: nothing more is said, and the talk is over; SAVE is refused if the server keeps no file
abbrev pub AnswersShutdown : TalkState → PassState → LastSave → List ℕ → TalkState → PassState → Type 0
AnswersShutdown talk old save written next new =
    ((written ≡ []) × (next ≡ record talk { is_over = true }) × (new ≡ old))
    ⊎ ((save ≡ Always) × Says talk old no_file_line written next new)

abbrev pub AnswersServer : TalkState → PassState → ServerAsked → List ℕ → TalkState → PassState → Type 0
AnswersServer talk old (Info sections) written next new = AnswersInfo old sections written new × (next ≡ talk)
AnswersServer talk old Save written next new = (fate : Option SaveFate) × Says talk old (save_line fate) written next new
AnswersServer talk old SaveLater written next new = (keeps : Bool) × Says talk old (later_line keeps) written next new
AnswersServer talk old LastSaved written next new = (seconds : ℕ) × Says talk old (count_line seconds) written next new
AnswersServer talk old (Shutdown save) written next new = AnswersShutdown talk old save written next new
AnswersServer talk old (Clients asked) written next new = AnswersClients talk asked written next × (new ≡ old)
AnswersServer talk old (Slowlog asked) written next new = AnswersSlowlog asked written × (next ≡ talk) × (new ≡ old)
