-- How reading the commands of a piece stops.
use Rattle.std.specs.Prelude.{◌≡◌, ◌⊎◌, ℕ, List, ◌++◌, Bool, true, false, Option, Some, None, Result, Ok, Err}
use Rattle.devices.specs.Devices.{SinkState, TakesBytes, TakesPart, TakesThenFails}
use Rattle.bin_stripes.specs.Passes.{PassState}
use Rattle.resp.specs.Grammar.{IsBegun, IsFaulty}
use Rattle.resp.specs.declared.fault.NextFault.{NextFault}
use Rattle.resp.specs.declared.fault.NextFault.TheVariants.{Faulty, NoMemory}
use Rattle.redis_service.specs.declared.desk.TalkEnd.{TalkEnd}
use Rattle.redis_service.specs.declared.desk.TalkEnd.TheVariants as end
use Rattle.redis_service.specs.Sending.{IsPart}
use Rattle.redis_service.specs.Talks.{TalkState, Said, AnswersSaid, AnswersSome, AnswersBytes, BreaksBytes, Ending, Ends}

-- why nothing more is read from this rest: no whole command begins it, or the fault
abbrev pub IsLast : Option NextFault → List ℕ → Type 0
IsLast None rest = IsBegun rest
IsLast (Some (Faulty fault)) rest = IsFaulty fault rest
IsLast (Some NoMemory) rest = Unit {0}

-- the talk is over, or there is no command to read
abbrev pub Stops : Option NextFault → TalkState → List ℕ → Type 0
Stops fault talk rest = (talk.is_over ≡ true) ⊎ ((talk.is_over ≡ false) × IsLast fault rest)

-- commands were answered, as far as there were some
pub record AnswersAll (now : ℕ) (refuses : Bool) (before after : SinkState) (talk : TalkState) (old : PassState) (bytes : List ℕ) (fault : Option NextFault) (next : TalkState)
    (new : PassState) (rest : List ℕ) : Type 0 where
  pub written : List ℕ
  pub taken : TakesBytes before after written
  pub some : AnswersSome now refuses talk old bytes written next new rest
  pub stops : Stops fault next rest

-- commands were answered, and then a write failed
pub record FailsAt (now : ℕ) (refuses : Bool) (before after : SinkState) (talk : TalkState) (old : PassState) (bytes : List ℕ) (next : TalkState) (new : PassState) : Type 0 where
  pub written : List ℕ
  pub last : TalkState
  pub between : PassState
  pub rest : List ℕ
  pub some : AnswersSome now refuses talk old bytes written last between rest
  pub said : Said
  pub behind : List ℕ
  pub rest_is : rest ≡ said.read ++ behind
  pub answers : AnswersSaid now refuses last between said next new
  pub part : List ℕ
  pub cut : IsPart part said.written
  pub taken : TakesThenFails before after (written ++ part)

-- ---- the end

-- what is told at the end was written
pub record TellsEnd (before after : SinkState) (rest : List ℕ) (talk next : TalkState) : Type 0 where
  pub ending : Ending
  pub tail : List ℕ
  pub ends : Ends ending rest talk tail next
  pub taken : TakesBytes before after tail

-- a write of what is told at the end failed
pub record FailsEnd (before after : SinkState) (rest : List ℕ) (talk next : TalkState) : Type 0 where
  pub ending : Ending
  pub tail : List ℕ
  pub ends : Ends ending rest talk tail next
  pub taken : TakesPart before after tail

-- what came of the end, by what was returned: the talk goes on, or is over; or a write failed
abbrev pub TellsLast : Result (Unit {0}) TalkEnd → SinkState → SinkState → List ℕ → TalkState → TalkState → Type 0
TellsLast (Ok _) before after rest talk next = TellsEnd before after rest talk next × (next.is_over ≡ false)
TellsLast (Err end.Over) before after rest talk next = TellsEnd before after rest talk next × (next.is_over ≡ true)
TellsLast (Err end.NoMemory) before after rest talk next = ⊥
TellsLast (Err end.WriteFailed) before after rest talk next = FailsEnd before after rest talk next × (next.is_over ≡ true)

-- ---- all of it

-- these bytes are answered, and the answers were written
abbrev pub TakesAnswers : ℕ → Bool → SinkState → SinkState → TalkState → PassState → List ℕ → TalkState → PassState → Type 0
TakesAnswers now refuses before after talk old bytes next new =
    (written : List ℕ) × TakesBytes before after written × AnswersBytes now refuses talk old bytes written next new

-- what came of these bytes, by what was returned: the same
abbrev pub Taken : ℕ → Bool → Result (Unit {0}) TalkEnd → SinkState → SinkState → TalkState → PassState → List ℕ → TalkState → PassState → Type 0
Taken now refuses (Ok _) before after talk old bytes next new = (next.is_over ≡ false) × TakesAnswers now refuses before after talk old bytes next new
Taken now refuses (Err end.Over) before after talk old bytes next new = (next.is_over ≡ true) × TakesAnswers now refuses before after talk old bytes next new
Taken now refuses (Err end.NoMemory) before after talk old bytes next new = ⊥
Taken now refuses (Err end.WriteFailed) before after talk old bytes next new =
    (written : List ℕ) × TakesThenFails before after written × BreaksBytes now refuses talk old bytes written next new
