-- A talk with one client: how each piece of its bytes is taken.
use Rattle.std.specs.Prelude.{◌≡◌, ◌⊎◌, ℕ, List, [], ◌∷◌, ◌++◌, flat_map, Bool, true, false}
use Rattle.bin_stripes.specs.Passes.{PassState}
use Rattle.resp.specs.Grammar.{Spells, IsIgnored, IsBegun, IsFaulty}
use Rattle.resp.specs.Replies.{error_bytes}
use Rattle.resp.specs.Faults.{fault_message}
use Rattle.resp.specs.declared.fault.RespFault.{RespFault}
pub use Rattle.redis_service.specs.States.{TalkState, begun, without_rest, ended, renamed, is_authenticated}
use Rattle.redis_service.specs.Lines.{no_memory_line}
use Rattle.redis_service.specs.Sending.{IsPart}
use Rattle.redis_service.specs.Commands.{AnswersWords}

-- bytes that were read from the client, and the answer to them
pub record Said : Type 0 where
  pub read : List ℕ
  pub written : List ℕ

-- over the time at which the calls are made, and whether changes are refused then
module _ (now : ℕ) (refuses : Bool) where
  -- what was read is ignored, or is a command that is answered so
  abbrev pub AnswersSaid : TalkState → PassState → Said → TalkState → PassState → Type 0
  AnswersSaid talk old said next new =
      (IsIgnored said.read × (said.written ≡ []) × (next ≡ talk) × (new ≡ old))
      ⊎ ((words : List (List ℕ)) × Spells words said.read × AnswersWords now refuses talk old words said.written next new)

  -- one after the other, as long as the talk is not over
  abbrev pub AnswersEach : TalkState → PassState → List Said → TalkState → PassState → Type 0
  AnswersEach talk old [] next new = (next ≡ talk) × (new ≡ old)
  AnswersEach talk old (said ∷ later) next new =
      (mid : TalkState) × (between : PassState) × (talk.is_over ≡ false) × AnswersSaid talk old said mid between × AnswersEach mid between later next new

  -- the bytes begin with commands, which are answered by these bytes; this rest comes after them
  pub record AnswersSome (talk : TalkState) (old : PassState) (bytes written : List ℕ) (next : TalkState) (new : PassState)
      (rest : List ℕ) : Type 0 where
    pub said : List Said
    pub each : AnswersEach talk old said next new
    pub read_is : bytes ≡ flat_map (λ one. one.read) said ++ rest
    pub written_is : written ≡ flat_map (λ one. one.written) said

-- why no command of the rest is answered
pub data Ending : Type 0 where
  -- no whole command begins it yet
  waits : Ending
  -- the client asked for the end
  left : Ending
  -- the bytes have a fault, which is told
  faulty : RespFault → Ending
  -- memory to read on, or to keep the rest, was refused, which is told
  no_memory : Ending

-- what is told then, and the talk after it
abbrev pub Ends : Ending → List ℕ → TalkState → List ℕ → TalkState → Type 0
Ends waits rest talk written next =
    IsBegun rest × (talk.is_over ≡ false) × (written ≡ []) × (next ≡ record talk { rest = rest })
Ends left rest talk written next = (talk.is_over ≡ true) × (written ≡ []) × (next ≡ ended talk)
Ends (faulty fault) rest talk written next =
    IsFaulty fault rest × (talk.is_over ≡ false) × (written ≡ error_bytes (fault_message fault)) × (next ≡ ended talk)
Ends no_memory rest talk written next = (talk.is_over ≡ false) × (written ≡ no_memory_line) × (next ≡ ended talk)

-- over the time at which the calls are made, and whether changes are refused then
module _ (now : ℕ) (refuses : Bool) where
  -- commands that begin the bytes are answered, and what is told then; no command begins the rest
  pub record AnswersBytes (talk : TalkState) (old : PassState) (bytes written : List ℕ) (next : TalkState) (new : PassState) : Type 0 where
    pub last : TalkState
    pub before : List ℕ
    pub rest : List ℕ
    pub some : AnswersSome now refuses talk old bytes before last new rest
    pub ending : Ending
    pub tail : List ℕ
    pub ends : Ends ending rest last tail next
    pub written_is : written ≡ before ++ tail

  -- the answer that breaks off: that to the next command, or what is told at the end
  abbrev pub AnswersNext : TalkState → PassState → List ℕ → List ℕ → TalkState → PassState → Type 0
  AnswersNext talk old rest whole next new =
      ((said : Said) × (behind : List ℕ) × (mid : TalkState) × (rest ≡ said.read ++ behind) × (whole ≡ said.written)
      × AnswersSaid now refuses talk old said mid new × (next ≡ ended mid))
      ⊎ ((ending : Ending) × Ends ending rest talk whole next × (new ≡ old))

  -- the same, but the answers break off: one command was made, or an end told, whose answer is not wholly written, and none after
  -- it. The talk is over
  pub record BreaksBytes (talk : TalkState) (old : PassState) (bytes written : List ℕ) (next : TalkState) (new : PassState) : Type 0 where
    pub last : TalkState
    pub between : PassState
    pub before : List ℕ
    pub rest : List ℕ
    pub some : AnswersSome now refuses talk old bytes before last between rest
    pub whole : List ℕ
    pub answers : AnswersNext last between rest whole next new
    pub part : List ℕ
    pub cut : IsPart part whole
    pub written_is : written ≡ before ++ part
    pub over : next.is_over ≡ true

  -- the talk took the piece, and all commands that it completes are answered by these bytes; the pass then knows the last state
  abbrev pub AnswersPiece : TalkState → PassState → List ℕ → List ℕ → TalkState → PassState → Type 0
  AnswersPiece held old piece written next new = AnswersBytes (without_rest held) old (held.rest ++ piece) written next new

  -- the talk took the piece, but the answers to its commands break off
  abbrev pub BreaksPiece : TalkState → PassState → List ℕ → List ℕ → TalkState → PassState → Type 0
  BreaksPiece held old piece written next new = BreaksBytes (without_rest held) old (held.rest ++ piece) written next new
