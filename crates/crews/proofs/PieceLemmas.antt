-- What a piece of a client's bytes adds to what the client was told.
use Rattle.std.proofs.Common.{◌≡◌, ◌⊎◌, ℕ, ◌≤◌, List, [], ◌∷◌, ◌++◌, length, Bool, true, false, IsTrue, Option, Some, None, Result, Ok, Err, OnOk, MatchResult, flat_map, refl, sym, ap, subst, ◌∙◌, append-nil, append_assoc, inl, inr}
use Rattle.std.proofs.lemmas.List.Concat.{flat_map-append}
use Rattle.bin_stripes.specs.Passes.{PassState, ServesSameMap}
use Rattle.client_protocol.specs.declared.fault.ProtocolFault.{ProtocolFault}
use Rattle.client_protocol.specs.Faults.{protocol_fault_number}
use Rattle.client_protocol.specs.Frames.{Held, held_fault}
use Rattle.client_protocol.specs.Frames.Held.{open_at, failed}
use Rattle.devices.specs.Channels.{ChannelState, TakesOwed}
use Rattle.devices.specs.Devices.{SinkState, TakesBytes, TakesFront, TakesPart, TakesThenFails}
use Rattle.redis_service.specs.Lines.{no_memory_line}
use Rattle.redis_service.specs.Talks as redis
use Rattle.redis_service.specs.Talks.{TalkState, begun}
use Rattle.redis_service.specs.declared.desk.TalkEnd.{TalkEnd}
use Rattle.redis_service.specs.declared.desk.TalkEnd.TheVariants as talk_end
use Rattle.sessions.specs.Answering.{IsFront}
use Rattle.sessions.specs.Conversations.{AnswersPiece, TakesPiece, Exchange}
use Rattle.sessions.specs.OwedAnswers.{OwedState, IsSent, sink_of}
use Rattle.sessions.proofs.PartLemmas.{sent_before}
use Rattle.sessions.specs.Sessions.{refusal}
use Rattle.sessions.specs.declared.session.SessionEnd.{SessionEnd}
use Rattle.sessions.specs.declared.session.SessionEnd.TheVariants as session
use Rattle.sessions.specs.declared.session.conversation.ConversationEnd.{ConversationEnd}
use Rattle.sessions.specs.declared.session.conversation.ConversationEnd.TheVariants.{Refused, NoMemory, WriteFailed}
use Rattle.crews.specs.declared.clients.Parting.{Parting}
use Rattle.crews.specs.declared.clients.Parting.TheVariants.{Ended}
use Rattle.crews.specs.declared.talk.Talk.{Talk}
use Rattle.crews.specs.declared.talk.Talk.TheVariants.{Frames, Commands}
use Rattle.crews.specs.Stations.{KeptTokens, Station}
use Rattle.crews.specs.Steps.{CrewServes}
use Rattle.crews.specs.Talks.{protocol_of, IsOpen, AnswersCommands, Talked, Breaks}
use Rattle.crews.specs.Partings.{AllSaid, LacksPiece, SaidInPart, SaysSo, no_memory_told}
use Rattle.crews.specs.Lives.{Known, known, KeepsNumbers}
use Rattle.crews.specs.Turns.{TellsLast, LeavesAt, LeavesTalk, SaysMore}
use Rattle.crews.proofs.LifeLemmas.{converses_on, each_on, numbers_stay}
use Rattle.crews.proofs.NumberLemmas.{SameNumbers, piece_same, broken_same}

-- ---- fronts

pub front_all : (xs : List ℕ) → IsFront xs xs
front_all xs = ([], sym (append-nil xs))

front_behind : (xs part whole : List ℕ) → IsFront part whole → IsFront (xs ++ part) (xs ++ whole)
front_behind xs part whole (missing, is) = (missing, ap (λ (t : List ℕ). xs ++ t) is ∙ sym (append_assoc xs part missing))

pub front_of_front : (xs ys whole : List ℕ) → IsFront (xs ++ ys) whole → IsFront xs whole
front_of_front xs ys whole (missing, is) = (ys ++ missing, is ∙ append_assoc xs ys missing)

-- ---- what was sent meanwhile

-- the last bytes are owed after what was left
tells_sent : (now next : ChannelState) (last : List ℕ) (end : SessionEnd) (leaving : Option Parting) (whole left c : List ℕ) → TakesOwed now next whole left → TellsLast last end leaving left c
    → (after : List ℕ) × TakesOwed now next after c × TellsLast last end leaving whole after
tells_sent now next last end leaving whole left c takes (inl (is, more)) =
    (whole ++ last, subst (λ (t : List ℕ). TakesOwed now next (whole ++ last) t) (sym more) (sent_before now next whole left last takes), inl (is, refl))
tells_sent now next last end leaving whole left c takes (inr (is, (part, front, more))) =
    (whole ++ part, subst (λ (t : List ℕ). TakesOwed now next (whole ++ part) t) (sym more) (sent_before now next whole left part takes), inr (is, (part, front, refl)))

-- so is what a client is owed when it leaves
pub leaves_sent : {U : Type 0} (taken : Result U ConversationEnd) (now next : ChannelState) (leaving : Option Parting) (whole b c : OwedState) → IsSent now next whole b
    → MatchResult taken (λ _. (leaving ≡ None) × (c ≡ b)) (λ end. LeavesAt end leaving b.rest c.rest)
    → (after : OwedState) × IsSent now next after c × MatchResult taken (λ _. (leaving ≡ None) × (after ≡ whole)) (λ end. LeavesAt end leaving whole.rest after.rest)
leaves_sent (Ok u) now next leaving whole b c sent (is, same) = (whole, subst (λ (o : OwedState). IsSent now next whole o) (sym same) sent, (is, refl))
leaves_sent (Err (Refused fault)) now next leaving whole b c sent tells =
    let (after, takes, told) = tells_sent now next (refusal (protocol_fault_number fault)) (session.Refused fault) leaving whole.rest b.rest c.rest sent.0 tells in
    (record { rest = after; failures = c.failures }, (takes, refl), told)
leaves_sent (Err NoMemory) now next leaving whole b c sent tells =
    let (after, takes, told) = tells_sent now next (refusal 9) session.NoMemory leaving whole.rest b.rest c.rest sent.0 tells in
    (record { rest = after; failures = c.failures }, (takes, refl), told)
leaves_sent (Err WriteFailed) now next leaving whole b c sent (is, same) =
    (record { rest = whole.rest; failures = c.failures }, (subst (λ (t : List ℕ). TakesOwed now next whole.rest t) (sym same) sent.0, refl), (is, refl))

-- ---- one exchange more

abbrev exchange : Station → List ℕ → List ℕ → Station → Exchange Station
exchange old piece written new = record { old = old; piece = piece; written = written; new = new }

one_more : (f : Exchange Station → List ℕ) (xs : List (Exchange Station)) (x : Exchange Station) → flat_map f (xs ++ x ∷ []) ≡ flat_map f xs ++ f x
one_more f xs x = flat_map-append f xs (x ∷ []) ∙ ap (λ (t : List ℕ). flat_map f xs ++ t) (append-nil (f x))

open_of : (held : Held) → held_fault held ≡ None → IsOpen (Frames held)
open_of (open_at hello rest) is = (hello, rest, refl)
open_of (failed fault) is = absurd cc

failed_of : (held : Held) (fault : ProtocolFault) → held_fault held ≡ Some fault → held ≡ failed fault
failed_of (open_at hello rest) fault is = absurd cc
failed_of (failed other) fault is = cc

numbers_of : (old new : Station) → SameNumbers old new → KeepsNumbers (known old) (known new)
numbers_of old new same = record { map_is = same.map; pass = same.pass; team = same.team; strict = same.strict }

-- a refusal was written there, or a front of it
pub refusal_told : (number : ℕ) (end result : SessionEnd) (a b : OwedState) → (result ≡ end) ⊎ (result ≡ session.WriteFailed) → (result ≡ end → TakesBytes (sink_of a) (sink_of b) (refusal number))
    → (result ≡ session.WriteFailed → TakesFront (sink_of a) (sink_of b) (refusal number)) → TellsLast (refusal number) end (Some (Ended result)) a.rest b.rest
refusal_told number end result a b either whole front = elim either [
  | inl is ↦ inl (ap (λ (e : SessionEnd). Some (Ended e)) is, (whole is).0)
  | inr is ↦ let (part, (rest, taken, parts), count) = front is in inr (ap (λ (e : SessionEnd). Some (Ended e)) is, (part, (rest, parts), taken))
]

-- a line was written there, or a front of it
pub line_told : (line : List ℕ) (end : SessionEnd) (a b : OwedState) → TakesBytes (sink_of a) (sink_of b) line → TellsLast line end (Some (Ended end)) a.rest b.rest
line_told line end a b takes = inl (refl, takes.0)

pub line_cut : (line : List ℕ) (end : SessionEnd) (a b : OwedState) → TakesPart (sink_of a) (sink_of b) line → TellsLast line end (Some (Ended session.WriteFailed)) a.rest b.rest
line_cut line end a b ((front, (rest, taken, parts, some)), count) = inr (refl, (front, (rest, parts), taken))

some_same : (x y : List ℕ) → Some x ≡ Some y → x ≡ y
some_same x y is = cc

-- over the password that clients of commands have to show, if there is one
module _ (password : Option (List ℕ)) where
  said_more : (talk next : Talk) (x : Exchange Station) (exchanges : List (Exchange Station)) (read said : List ℕ) → (Talked password exchanges talk → Talked password (exchanges ++ x ∷ []) next)
      → AllSaid password exchanges talk read said → AllSaid password (exchanges ++ x ∷ []) next (read ++ x.piece) (said ++ x.written)
  said_more talk next x exchanges read said goes all = record {
    talked = goes all.talked;
    read_is = ap (λ (t : List ℕ). t ++ x.piece) all.read_is ∙ sym (one_more (λ (x : Exchange Station). x.piece) exchanges x);
    said_is = ap (λ (t : List ℕ). t ++ x.written) all.said_is ∙ sym (one_more (λ (x : Exchange Station). x.written) exchanges x);
  }

  frames_more : (old new : Station) (held next : Held) (piece written : List ℕ) (exchanges : List (Exchange Station)) → AnswersPiece CrewServes held old piece written next new
      → Talked password exchanges (Frames held) → Talked password (exchanges ++ exchange old piece written new ∷ []) (Frames next)
  frames_more old new held next piece written exchanges answers talked =
      converses_on (open_at None []) held next exchanges (exchange old piece written new ∷ []) talked (next, answers, refl)

  commands_more : (x : Exchange Station) (talk next : TalkState) (exchanges : List (Exchange Station)) → AnswersCommands talk x next
      → Talked password exchanges (Commands talk) → Talked password (exchanges ++ x ∷ []) (Commands next)
  commands_more x talk next exchanges answers (number, each) =
      (number, each_on (begun number password) talk next exchanges (x ∷ []) each (next, answers, refl))

  -- a piece was answered
  answered : (old new : Station) (next : Talk) (piece written : List ℕ) (leaving : Option Parting) (owed after tail : List ℕ) (exchanges : List (Exchange Station)) (read said : List ℕ)
      → KeepsNumbers (known old) (known new) → new.tokens.registry ≡ old.tokens.registry → after ≡ (owed ++ written) ++ tail
      → SaysSo password leaving next (exchanges ++ exchange old piece written new ∷ []) (read ++ piece) ((said ++ written) ++ tail)
      → SaysMore password (known old) (known new) exchanges old.tokens new.tokens next leaving (read ++ piece) said owed after
  answered old new next piece written leaving owed after tail exchanges read said numbers of is says = record {
    more = exchange old piece written new ∷ [];
    moves = (refl, refl);
    numbers = numbers;
    keeps = (refl, refl);
    of = of;
    grown = written ++ tail;
    owed_is = is ∙ append_assoc owed written tail;
    says = subst (λ (t : List ℕ). SaysSo password leaving next (exchanges ++ exchange old piece written new ∷ []) (read ++ piece) t) (append_assoc said written tail) says;
  }

  -- and nothing is owed after the answers
  only_answered : (old new : Station) (next : Talk) (piece written : List ℕ) (leaving : Option Parting) (owed after : List ℕ) (exchanges : List (Exchange Station)) (read said : List ℕ)
      → KeepsNumbers (known old) (known new) → new.tokens.registry ≡ old.tokens.registry → after ≡ owed ++ written
      → SaysSo password leaving next (exchanges ++ exchange old piece written new ∷ []) (read ++ piece) (said ++ written)
      → SaysMore password (known old) (known new) exchanges old.tokens new.tokens next leaving (read ++ piece) said owed after
  only_answered old new next piece written leaving owed after exchanges read said numbers of is says =
      answered old new next piece written leaving owed after [] exchanges read said numbers of (is ∙ sym (append-nil (owed ++ written)))
      (subst (λ (t : List ℕ). SaysSo password leaving next (exchanges ++ exchange old piece written new ∷ []) (read ++ piece) t) (sym (append-nil (said ++ written))) says)

  -- nothing was answered
  unanswered : (station : Station) (talk : Talk) (piece : List ℕ) (leaving : Option Parting) (owed after tail : List ℕ) (exchanges : List (Exchange Station)) (read said : List ℕ)
      → after ≡ owed ++ tail → SaysSo password leaving talk exchanges (read ++ piece) (said ++ tail)
      → SaysMore password (known station) (known station) exchanges station.tokens station.tokens talk leaving (read ++ piece) said owed after
  unanswered station talk piece leaving owed after tail exchanges read said is says = record {
    more = [];
    moves = refl;
    numbers = numbers_stay (known station);
    keeps = refl;
    of = refl;
    grown = tail;
    owed_is = is;
    says = subst (λ (es : List (Exchange Station)). SaysSo password leaving talk es (read ++ piece) (said ++ tail)) (sym (append-nil exchanges)) says;
  }

  lacking : (station : Station) (talk : Talk) (piece : List ℕ) (leaving : Option Parting) (a c : List ℕ) (exchanges : List (Exchange Station)) (read said : List ℕ)
      → 1 ≤ length piece → TellsLast (no_memory_told (protocol_of talk)) session.NoMemory leaving a c → IsOpen talk → AllSaid password exchanges talk read said
      → SaysMore password (known station) (known station) exchanges station.tokens station.tokens talk leaving (read ++ piece) said a c
  lacking station talk piece leaving a c exchanges read said some tells opened all =
      let last = no_memory_told (protocol_of talk) in
      let lacks : LacksPiece password (protocol_of talk) exchanges (read ++ piece) said = (read, piece, refl, some, (talk, refl, opened, all)) in
      elim tells [
        | inl (is, more) ↦ unanswered station talk piece leaving a c last exchanges read said more
            (subst (λ (l : Option Parting). SaysSo password l talk exchanges (read ++ piece) (said ++ last)) (sym is) (said, lacks, refl))
        | inr (is, (part, front, more)) ↦ unanswered station talk piece leaving a c part exchanges read said more
            (subst (λ (l : Option Parting). SaysSo password l talk exchanges (read ++ piece) (said ++ part)) (sym is)
            (said ++ last, inr (inl (last, said, inr (refl, lacks), refl)), front_behind said part last front))
      ]

  -- the answers break off
  broken : (old new : Station) (talk next : Talk) (piece written : List ℕ) (leaving : Option Parting) (a c : List ℕ) (exchanges : List (Exchange Station)) (read said : List ℕ)
      → KeepsNumbers (known old) (known new) → new.tokens.registry ≡ old.tokens.registry → Breaks talk (exchange old piece written new) next → protocol_of talk ≡ protocol_of next
      → leaving ≡ Some (Ended session.WriteFailed) → c ≡ a ++ written → AllSaid password exchanges talk read said
      → SaysMore password (known old) (known new) exchanges old.tokens new.tokens next leaving (read ++ piece) said a c
  broken old new talk next piece written leaving a c exchanges read said numbers of breaks speaks is more all =
      let xs = exchanges ++ exchange old piece written new ∷ [] in
      let part : SaidInPart password (protocol_of next) xs (read ++ piece) (said ++ written) = record {
        done = exchanges;
        last = exchange old piece written new;
        order = refl;
        before = read;
        answers = said;
        talk = talk;
        speaks = speaks;
        whole = all;
        next = next;
        breaks = breaks;
        read_is = refl;
        said_is = refl;
      } in
      only_answered old new next piece written leaving a c exchanges read said numbers of more
      (subst (λ (l : Option Parting). SaysSo password l next xs (read ++ piece) (said ++ written)) (sym is) (said ++ written, inr (inr part), front_all (said ++ written)))

  -- ---- frames

  refused : (old new : Station) (held next : Held) (piece written : List ℕ) (fault : ProtocolFault) (leaving : Option Parting) (a b c : List ℕ) (exchanges : List (Exchange Station)) (read said : List ℕ)
      → held_fault next ≡ Some fault → b ≡ a ++ written → AnswersPiece CrewServes held old piece written next new → TellsLast (refusal (protocol_fault_number fault)) (session.Refused fault) leaving b c
      → AllSaid password exchanges (Frames held) read said → SaysMore password (known old) (known new) exchanges old.tokens new.tokens (Frames next) leaving (read ++ piece) said a c
  refused old new held next piece written fault leaving a b c exchanges read said faulty grown answers tells all =
      let last = refusal (protocol_fault_number fault) in
      let xs = exchanges ++ exchange old piece written new ∷ [] in
      let same = piece_same held next old new piece written answers in
      let numbers = numbers_of old new same in
      let said_all = said_more (Frames held) (Frames next) (exchange old piece written new) exchanges read said (frames_more old new held next piece written exchanges answers) all in
      let is_failed = failed_of next fault faulty in
      elim tells [
        | inl (is, more) ↦ answered old new (Frames next) piece written leaving a c last exchanges read said numbers same.registry (more ∙ ap (λ (t : List ℕ). t ++ last) grown)
            (subst (λ (l : Option Parting). SaysSo password l (Frames next) xs (read ++ piece) ((said ++ written) ++ last)) (sym is) (said ++ written, (Frames next, refl, is_failed, said_all), refl))
        | inr (is, (part, front, more)) ↦ answered old new (Frames next) piece written leaving a c part exchanges read said numbers same.registry (more ∙ ap (λ (t : List ℕ). t ++ part) grown)
            (subst (λ (l : Option Parting). SaysSo password l (Frames next) xs (read ++ piece) ((said ++ written) ++ part)) (sym is)
            ((said ++ written) ++ last, inr (inl (last, said ++ written, inl (fault, refl, (Frames next, refl, is_failed, said_all)), refl)), front_behind (said ++ written) part last front))
      ]

  -- what the conversation made of a piece
  pub piece_says : {U : Type 0} (taken : Result U ConversationEnd) (old new : Station) (held next : Held) (piece : List ℕ) (leaving : Option Parting) (a b c : OwedState) → 1 ≤ length piece
      → TakesPiece CrewServes taken held old piece (sink_of a) (sink_of b) next new
      → MatchResult taken (λ _. (leaving ≡ None) × (c ≡ b)) (λ end. LeavesAt end leaving b.rest c.rest)
      → (exchanges : List (Exchange Station)) (read said : List ℕ) → SaysSo password None (Frames held) exchanges read said
      → SaysMore password (known old) (known new) exchanges old.tokens new.tokens (Frames next) leaving (read ++ piece) said a.rest c.rest
  piece_says (Ok u) old new held next piece leaving a b c some (faultless, (written, takes, answers)) (is, same) exchanges read said (opened, all) =
      let xs = exchanges ++ exchange old piece written new ∷ [] in
      let kept = piece_same held next old new piece written answers in
      only_answered old new (Frames next) piece written leaving a.rest c.rest exchanges read said (numbers_of old new kept) kept.registry
      (ap (λ (o : OwedState). o.rest) same ∙ takes.0)
      (subst (λ (l : Option Parting). SaysSo password l (Frames next) xs (read ++ piece) (said ++ written)) (sym is)
      (open_of next faultless, said_more (Frames held) (Frames next) (exchange old piece written new) exchanges read said (frames_more old new held next piece written exchanges answers) all))
  piece_says (Err (Refused fault)) old new held next piece leaving a b c some (faulty, (written, takes, answers)) tells exchanges read said (opened, all) =
      refused old new held next piece written fault leaving a.rest b.rest c.rest exchanges read said faulty takes.0 answers tells all
  piece_says (Err NoMemory) old new held next piece leaving a b c some (same, still, kept) tells exchanges read said (opened, all) =
      let unwritten : b.rest ≡ a.rest = some_same b.rest a.rest (ap (λ (s : SinkState). s.held) kept) in
      subst (λ (h : Held). SaysMore password (known old) (known new) exchanges old.tokens new.tokens (Frames h) leaving (read ++ piece) said a.rest c.rest) (sym same)
      (subst (λ (s : Station). SaysMore password (known old) (known s) exchanges old.tokens s.tokens (Frames held) leaving (read ++ piece) said a.rest c.rest) (sym still)
      (lacking old (Frames held) piece leaving a.rest c.rest exchanges read said some (subst (λ (t : List ℕ). TellsLast (refusal 9) session.NoMemory leaving t c.rest) unwritten tells) opened all))
  piece_says (Err WriteFailed) old new held next piece leaving a b c some (written, takes, broke) (is, same) exchanges read said (opened, all) =
      let kept = broken_same held next old new piece written broke in
      broken old new (Frames held) (Frames next) piece written leaving a.rest c.rest exchanges read said (numbers_of old new kept) kept.registry broke refl is (same ∙ takes.0) all

  -- the passes had the client's tokens meanwhile
  pub says_around : (s0 s1 s2 s3 : Station) (t0 t1 t2 : KeptTokens) (next : Talk) (leaving : Option Parting) (exchanges : List (Exchange Station)) (read said owed more : List ℕ)
      → s1 ≡ record s0 { tokens = t0 } → s3 ≡ record s2 { tokens = t1 } → t2 ≡ s2.tokens
      → SaysMore password (known s1) (known s2) exchanges s1.tokens s2.tokens next leaving read said owed more → SaysMore password (known s0) (known s3) exchanges t0 t2 next leaving read said owed more
  says_around s0 s1 s2 s3 t0 t1 t2 next leaving exchanges read said owed more lent back left m =
      subst (λ (s : Station). SaysMore password (known s0) (known s) exchanges t0 t2 next leaving read said owed more) (sym back)
      (subst (λ (t : KeptTokens). SaysMore password (known s0) (known s2) exchanges t0 t next leaving read said owed more) (sym left)
      (subst (λ (s : Station). SaysMore password (known s) (known s2) exchanges s.tokens s2.tokens next leaving read said owed more) lent m))

  -- ---- commands

  -- what the talk made of a piece
  pub commands_say : {U : Type 0} (taken : Result U TalkEnd) (tokens : KeptTokens) (team : List PassState) (strict : Bool) (old new : PassState) (time : ℕ) (refuses : Bool) (talk next : TalkState) (piece : List ℕ) (leaving : Option Parting) (a b c : OwedState) → 1 ≤ length piece
      → talk.is_over ≡ false → (IsTrue refuses → IsTrue strict) → ServesSameMap old new → new.view.numbers ≡ old.view.numbers
      → OnOk taken ((next.is_over ≡ false) × ((written : List ℕ) × TakesBytes (sink_of a) (sink_of b) written × redis.AnswersPiece time refuses talk old piece written next new))
      → (taken ≡ Err talk_end.Over → (next.is_over ≡ true) × ((written : List ℕ) × TakesBytes (sink_of a) (sink_of b) written × redis.AnswersPiece time refuses talk old piece written next new))
      → (taken ≡ Err talk_end.NoMemory → (next ≡ talk) × (new ≡ old) × (sink_of b ≡ sink_of a))
      → (taken ≡ Err talk_end.WriteFailed → (written : List ℕ) × TakesThenFails (sink_of a) (sink_of b) written × redis.BreaksPiece time refuses talk old piece written next new)
      → MatchResult taken (λ _. (leaving ≡ None) × (c ≡ b)) (λ end. LeavesTalk end leaving b.rest c.rest)
      → (exchanges : List (Exchange Station)) (read said : List ℕ) → SaysSo password None (Commands talk) exchanges read said
      → SaysMore password (record { pass = old; team = team; is_strict = strict }) (record { pass = new; team = team; is_strict = strict }) exchanges tokens tokens (Commands next) leaving (read ++ piece) said a.rest c.rest
  commands_say (Ok u) tokens team strict old new time refuses talk next piece leaving a b c some begins may same numbers (goes_on, (written, takes, answers)) over lacks breaks (is, still) exchanges read said (opened, all) =
      let s0 : Station = record { pass = old; team = team; tokens = tokens; is_strict = strict } in
      let s1 : Station = record { pass = new; team = team; tokens = tokens; is_strict = strict } in
      let xs = exchanges ++ exchange s0 piece written s1 ∷ [] in
      only_answered s0 s1 (Commands next) piece written leaving a.rest c.rest exchanges read said (record { map_is = same.map; pass = numbers; team = refl; strict = refl }) refl
      (ap (λ (o : OwedState). o.rest) still ∙ takes.0)
      (subst (λ (l : Option Parting). SaysSo password l (Commands next) xs (read ++ piece) (said ++ written)) (sym is)
      (goes_on, said_more (Commands talk) (Commands next) (exchange s0 piece written s1) exchanges read said (commands_more (exchange s0 piece written s1) talk next exchanges (record { goes_on = begins; map = same.map; team = refl; tokens = refl; strict = refl; time = time; refuses = refuses; may = may; answers = answers })) all))
  commands_say (Err talk_end.Over) tokens team strict old new time refuses talk next piece leaving a b c some begins may same numbers ok over lacks breaks (is, still) exchanges read said (opened, all) =
      let (ended, (written, takes, answers)) = over refl in
      let s0 : Station = record { pass = old; team = team; tokens = tokens; is_strict = strict } in
      let s1 : Station = record { pass = new; team = team; tokens = tokens; is_strict = strict } in
      let xs = exchanges ++ exchange s0 piece written s1 ∷ [] in
      only_answered s0 s1 (Commands next) piece written leaving a.rest c.rest exchanges read said (record { map_is = same.map; pass = numbers; team = refl; strict = refl }) refl
      (still ∙ takes.0)
      (subst (λ (l : Option Parting). SaysSo password l (Commands next) xs (read ++ piece) (said ++ written)) (sym is)
      (Commands next, refl, ended, said_more (Commands talk) (Commands next) (exchange s0 piece written s1) exchanges read said (commands_more (exchange s0 piece written s1) talk next exchanges (record { goes_on = begins; map = same.map; team = refl; tokens = refl; strict = refl; time = time; refuses = refuses; may = may; answers = answers })) all))
  commands_say (Err talk_end.NoMemory) tokens team strict old new time refuses talk next piece leaving a b c some begins may same numbers ok over lacks breaks tells exchanges read said (opened, all) =
      let (unchanged, still, kept) = lacks refl in
      let unwritten : b.rest ≡ a.rest = some_same b.rest a.rest (ap (λ (s : SinkState). s.held) kept) in
      let before : Known = record { pass = old; team = team; is_strict = strict } in
      subst (λ (t : TalkState). SaysMore password before (record { pass = new; team = team; is_strict = strict }) exchanges tokens tokens (Commands t) leaving (read ++ piece) said a.rest c.rest) (sym unchanged)
      (subst (λ (p : PassState). SaysMore password before (record { pass = p; team = team; is_strict = strict }) exchanges tokens tokens (Commands talk) leaving (read ++ piece) said a.rest c.rest) (sym still)
      (lacking (record { pass = old; team = team; tokens = tokens; is_strict = strict }) (Commands talk) piece leaving a.rest c.rest exchanges read said some (subst (λ (t : List ℕ). TellsLast no_memory_line session.NoMemory leaving t c.rest) unwritten tells) opened all))
  commands_say (Err talk_end.WriteFailed) tokens team strict old new time refuses talk next piece leaving a b c some begins may same numbers ok over lacks breaks (is, still) exchanges read said (opened, all) =
      let (written, takes, broke) = breaks refl in
      broken (record { pass = old; team = team; tokens = tokens; is_strict = strict }) (record { pass = new; team = team; tokens = tokens; is_strict = strict }) (Commands talk) (Commands next) piece written leaving a.rest c.rest exchanges read said
      (record { map_is = same.map; pass = numbers; team = refl; strict = refl }) refl (record { goes_on = begins; map = same.map; team = refl; tokens = refl; strict = refl; time = time; refuses = refuses; may = may; breaks = broke }) refl is (still ∙ takes.0) all
