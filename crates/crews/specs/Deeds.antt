-- What crews make in their lives, turn by turn, and what two of them have in common once their passes are joined.
use Rattle.std.specs.Prelude.{◌≡◌, ◌⊎◌, ◌==◌, if◌then◌else◌, ℕ, ◌<◌, ◌≤◌, Bool, List, [], ◌∷◌, ◌++◌, Option}
use Rattle.std.proofs.Common.{inl, inr}
use Rattle.std.proofs.lemmas.Bool.{cases_lt}
use Rattle.bin_stripes.specs.Actions.{Action}
use Rattle.bin_stripes.specs.Histories.{own_events}
use Rattle.bin_stripes.specs.Invoked.{Makes}
use Rattle.bin_stripes.specs.Passes.{PassState, stripes_of}
use Rattle.bulk_walks.specs.Walks.{Events}
use Rattle.client_protocol.specs.Frames.{Held, held_hello}
use Rattle.program_registry.specs.declared.registry.Registry.{Registry}
use Rattle.devices.specs.Channels.{ChannelState}
use Rattle.redis_service.specs.Talks.{TalkState}
use Rattle.sessions.specs.Answering.{hello_behind}
use Rattle.sessions.specs.Conversations.{Exchange, AnswersPiece, BreaksPiece}
use Rattle.crews.specs.declared.clients.Parting.{Parting}
use Rattle.crews.specs.declared.clients.Protocol.{Protocol}
use Rattle.crews.specs.declared.crew.Crew.{Crew}
use Rattle.crews.specs.declared.talk.Talk.{Talk}
use Rattle.crews.specs.Collected.{in_order}
use Rattle.crews.specs.Lives.{Known, known, known_at, Turn, Moves, exchanges_of, KeepsNumbers, Life, HasLived}
use Rattle.crews.specs.Lives.Turn.{serves, sweeps}
use Rattle.crews.specs.Partings.{SaysSo}
use Rattle.crews.specs.Stations.{Station}
use Rattle.crews.specs.Steps.{CrewServes}
use Rattle.crews.specs.Talks.{AnswersCommands, BreaksCommands}
use Rattle.crews.specs.Whole.{CrewEvent, own, made_by_step, SeesCrews, IsOfOneMap}

-- ---- what a pass does

-- actions on one stripe, in one hold of it
pub record Deed : Type 0 where
  pub stripe : ℕ
  pub actions : List Action

-- the pass did just these, one after the other
abbrev pub Does : PassState → List Deed → PassState → Type 0
Does old [] new = new ≡ old
Does old (deed ∷ deeds) new = (mid : PassState) × Makes old deed.stripe deed.actions mid × Does mid deeds new

-- on the stripe of this number
module _ (k : ℕ) where
  -- the events of these deeds there
  abbrev pub done_on : (old : PassState) (deeds : List Deed) (new : PassState) → Does old deeds new → Events
  done_on old [] new same = []
  done_on old (deed ∷ deeds) new (mid, makes, later) =
      (if deed.stripe == k then own_events old.view deed.actions else []) ++ done_on mid deeds new later

  -- the crew's pass did some deeds, and this is what they made there
  abbrev pub MadeByDeeds : PassState → PassState → List CrewEvent → Type 0
  MadeByDeeds old new made = (deeds : List Deed) × (does : Does old deeds new) × (made ≡ own (done_on old deeds new does))

  -- ---- what a crew makes in a turn

  -- for the requests that a piece completes: the events of their calls and walks, in order
  abbrev pub made_for_piece : (held : Held) (exchange : Exchange Station) (next : Held)
      → AnswersPiece CrewServes held exchange.old exchange.piece exchange.written next exchange.new → List CrewEvent
  made_for_piece held exchange next (requests, feeds, (responses, answers, is)) =
      in_order CrewServes (made_by_step k) (held_hello held) exchange.old exchange.new responses requests answers

  -- the same, if the answers break off; the last request was made too
  abbrev pub made_for_part : (held : Held) (exchange : Exchange Station) (next : Held)
      → BreaksPiece CrewServes held exchange.old exchange.piece exchange.written next exchange.new → List CrewEvent
  made_for_part held exchange next (requests, feeds, breaks) =
      in_order CrewServes (made_by_step k) (held_hello held) exchange.old breaks.mid breaks.answered.0 breaks.done breaks.answered.1
      ++ made_by_step k (hello_behind (held_hello held) breaks.done) breaks.mid breaks.request breaks.responses exchange.new breaks.made

  -- the exchange's piece is answered in frames, and this is made for its requests
  abbrev pub MadeForFrames : Exchange Station → List CrewEvent → Type 0
  MadeForFrames exchange made = (held : Held) × (next : Held)
      × (((answers : AnswersPiece CrewServes held exchange.old exchange.piece exchange.written next exchange.new)
      × (made ≡ made_for_piece held exchange next answers))
      ⊎ ((breaks : BreaksPiece CrewServes held exchange.old exchange.piece exchange.written next exchange.new)
      × (made ≡ made_for_part held exchange next breaks)))

  -- or its commands are answered, by calls of the crew's pass, and these make this
  pub record MadeForCommands (exchange : Exchange Station) (made : List CrewEvent) : Type 0 where
    pub talk : TalkState
    pub next : TalkState
    pub answers : AnswersCommands talk exchange next ⊎ BreaksCommands talk exchange next
    pub calls : MadeByDeeds exchange.old.pass exchange.new.pass made

  -- in a turn that begins with what the passes know
  abbrev pub MadeInTurn : Known → Turn → List CrewEvent → Type 0
  MadeInTurn old (serves client exchange) made = MadeForFrames exchange made ⊎ MadeForCommands exchange made
  MadeInTurn old (sweeps time pass) made = MadeByDeeds old.pass pass made

  -- what the passes know after a turn
  abbrev pub after_turn : Known → Turn → Known
  after_turn old (serves client exchange) = known exchange.new
  after_turn old (sweeps time pass) = record old { pass = pass }

  -- in turns, one after the other
  abbrev pub MadeInTurns : Known → List Turn → List CrewEvent → Type 0
  MadeInTurns old [] made = made ≡ []
  MadeInTurns old (turn ∷ turns) made = (here : List CrewEvent) × (later : List CrewEvent)
      × MadeInTurn old turn here × MadeInTurns (after_turn old turn) turns later × (made ≡ here ++ later)

-- ---- lives

-- what was read of a client is answered in these exchanges, in its protocol; it may have left since
abbrev pub AreAnswered : List (Exchange Station) → Type 0
AreAnswered exchanges =
    (password : Option (List ℕ)) × (leaving : Option Parting) × (talk : Talk) × (read : List ℕ) × (said : List ℕ) × SaysSo password leaving talk exchanges read said

-- the turns lead from what the passes knew to what they know, and those with each client answered it
pub record Lives (old : Known) (turns : List Turn) (new : Known) : Type 0 where
  pub moves : Moves old turns new
  pub each : (client : ℕ) → (exchanges_of client turns ≡ []) ⊎ AreAnswered (exchanges_of client turns)
  pub numbers : KeepsNumbers old new

-- so is the life of a crew that served clients
module _ {C : Type 0} (state : C → ChannelState) (gave : PassState → C → Protocol → Type 0) (registry : Registry) (password : Option (List ℕ)) where
  abbrev pub answered_in : (old : Known) (turns : List Turn) (new : Known) (clients client : ℕ) → Life state gave registry password old turns new clients
      → (client < clients) ⊎ (clients ≤ client) → (exchanges_of client turns ≡ []) ⊎ AreAnswered (exchanges_of client turns)
  answered_in old turns new clients client life (inr beyond) = inl (life.no_other client beyond)
  answered_in old turns new clients client life (inl within) =
      let (came, now, tokens, talk, owed, leaving, come, stands) = life.each client within in
      inr (password, leaving, talk, stands.read, stands.written ++ owed.rest, stands.says)

  abbrev pub lives_of : (old new : Crew) (strict : Bool) (lived : HasLived state gave registry password strict old new) → Lives (known_at strict old) lived.0 (known_at strict new)
  lives_of old new strict (turns, clients, life) = record {
    moves = life.moves;
    each = λ client. answered_in (known_at strict old) turns (known_at strict new) clients client life (cases_lt client clients);
    numbers = life.numbers;
  }

-- after any two such lives, the pass that joined all passes of both crews has seen of each stripe, under each number that it carries, just what
-- they had made before and what they made in their turns, each event once; and what each crew made in the order of its turns
abbrev pub SeesLives : Crew → Crew → PassState → Type 0
SeesLives one other joined =
    (first second : Known) (turns others : List Turn) (k : ℕ) → Lives first turns (known_at first.is_strict one) → Lives second others (known_at second.is_strict other)
    → IsOfOneMap first → IsOfOneMap second → k < stripes_of joined.map
    → (made : List CrewEvent) × (later : List CrewEvent) × MadeInTurns k first turns made × MadeInTurns k second others later
    × SeesCrews k first made second later joined
