-- What each command of words does, and the answer to words that are none.
use Rattle.std.specs.Prelude.{◌≡◌, ℕ, List, [], Bool, true, false, ◌&&◌, Option, Some, None, Result, Ok, Err}
use Rattle.bin_stripes.specs.Passes.{PassState}
use Rattle.resp.specs.Replies.{error_bytes}
use Rattle.redis_commands.specs.Commands.{Asked, Fault}
use Rattle.redis_commands.specs.Commands.Fault.{WebRequest}
use Rattle.redis_commands.specs.Commands.ConnectionAsked.{Hello, Auth, AuthDefault}
use Rattle.redis_commands.specs.Commands.Asked.{OnKey, OnKeys, SetEach, Walk, Connection, Server, Program}
use Rattle.redis_commands.specs.Table.{asked_of, asked_before_auth}
use Rattle.redis_commands.specs.Texts.{fault_text}
use Rattle.redis_service.specs.States.{TalkState, is_authenticated}
use Rattle.redis_service.specs.Changing.{changes, not_kept_line}
use Rattle.redis_service.specs.Answers.{AnswersKey, AnswersKeys, AnswersSetEach, pairs}
use Rattle.redis_service.specs.Walks.{AnswersWalk}
use Rattle.redis_service.specs.Connections.{AnswersConnection}
use Rattle.redis_service.specs.Saving.{AnswersServer}
use Rattle.redis_service.specs.Programs.{AnswersProgram}

-- the talk stays as it is
abbrev pub Same : TalkState → TalkState → Type 0
Same talk next = next ≡ talk

-- the password that a command shows
abbrev pub shown_by : Result Asked Fault → Option (List ℕ)
shown_by (Ok (Connection (Hello shown name))) = shown
shown_by (Ok (Connection (Auth shown))) = Some shown
shown_by (Ok (Connection (AuthDefault shown))) = Some shown
shown_by read = None

-- a command of a client that isn't authenticated makes no call on the map, and authenticates it only by the right password
abbrev pub Guards : TalkState → PassState → Result Asked Fault → TalkState → PassState → Type 0
Guards talk old read next new =
    is_authenticated talk ≡ false → (new ≡ old) × (is_authenticated next ≡ true → shown_by read ≡ talk.password)

-- over the time at which the calls are made
module _ (now : ℕ) where
  -- a command
  abbrev pub AnswersCommand : TalkState → PassState → Asked → List ℕ → TalkState → PassState → Type 0
  AnswersCommand talk old (OnKey key act) written next new = AnswersKey now old key act written new × Same talk next
  AnswersCommand talk old (OnKeys keys act) written next new = AnswersKeys now old keys act written new × Same talk next
  AnswersCommand talk old (SetEach words) written next new = AnswersSetEach now old (pairs words) written new × Same talk next
  AnswersCommand talk old (Connection asked) written next new = AnswersConnection talk old asked written next new
  AnswersCommand talk old (Server asked) written next new = AnswersServer talk old asked written next new
  AnswersCommand talk old (Walk asked) written next new = AnswersWalk now old asked written new × Same talk next
  AnswersCommand talk old (Program asked) written next new = AnswersProgram now old asked written new × Same talk next

  -- a command, or the text that says why the words are none. What looks like a request of the web ends the talk
  abbrev pub AnswersRead : TalkState → PassState → Result Asked Fault → List ℕ → TalkState → PassState → Type 0
  AnswersRead talk old (Ok asked) written next new = AnswersCommand talk old asked written next new
  AnswersRead talk old (Err WebRequest) written next new = (written ≡ []) × (next ≡ record talk { is_over = true }) × (new ≡ old)
  AnswersRead talk old (Err fault) written next new = (written ≡ error_bytes (fault_text fault)) × (new ≡ old) × Same talk next

  -- words of a client, which are read by whether it is authenticated
  abbrev pub read_of : Bool → List (List ℕ) → Result Asked Fault
  read_of true words = asked_of now words
  read_of false words = asked_before_auth words

  -- what was read is answered; or it is refused, and nothing changes
  abbrev pub AnswersUnless : Bool → TalkState → PassState → Result Asked Fault → List ℕ → TalkState → PassState → Type 0
  AnswersUnless true talk old read written next new = (written ≡ not_kept_line) × (new ≡ old) × Same talk next
  AnswersUnless false talk old read written next new = AnswersRead talk old read written next new × Guards talk old read next new

-- over the time at which the calls are made, and whether changes are refused then
module _ (now : ℕ) (refuses : Bool) where
  abbrev pub AnswersWords : TalkState → PassState → List (List ℕ) → List ℕ → TalkState → PassState → Type 0
  AnswersWords talk old words written next new =
      AnswersUnless now (refuses && changes (read_of now (is_authenticated talk) words)) talk old
      (read_of now (is_authenticated talk) words) written next new
