-- What crews make in their lives, and what two joined crews then have seen.
use Rattle.std.proofs.Common.{◌≡◌, ◌⊎◌, ◌==◌, if◌then◌else◌, inl, inr, ℕ, ◌<◌, List, [], ◌∷◌, ◌++◌, map, Bool, true, false, Option, Some, None, refl, sym, ap, subst, ◌∙◌, eq-eqb}
use Rattle.stripe_rule.specs.Gains.{IsJoined}
use Rattle.bin_stripes.specs.Histories.{own_events, Sound}
use Rattle.bin_stripes.specs.Passes.{PassState, stripes_of}
use Rattle.client_protocol.specs.Frames.{Held, held_hello}
use Rattle.client_protocol.specs.Frames.Held.{open_at}
use Rattle.redis_service.specs.Talks.{TalkState, begun}
use Rattle.sessions.specs.Answering.{hello_behind}
use Rattle.sessions.specs.Conversations.{Exchange, Converses, AnswersPiece, BreaksPiece}
use Rattle.sessions.specs.declared.session.SessionEnd.{SessionEnd}
use Rattle.sessions.specs.declared.session.SessionEnd.TheVariants.{Closed, Cut, Refused, ReadFailed, WriteFailed, NoMemory}
use Rattle.crews.specs.declared.clients.Parting.{Parting}
use Rattle.crews.specs.declared.clients.Parting.TheVariants as parting
use Rattle.crews.specs.declared.clients.Protocol.{Protocol}
use Rattle.crews.specs.declared.crew.Crew.{Crew}
use Rattle.crews.specs.declared.talk.Talk.{Talk}
use Rattle.crews.specs.declared.talk.Talk.TheVariants.{Frames, Commands}
use Rattle.crews.specs.Collected.{in_order}
use Rattle.crews.specs.Deeds.{Deed, Does, done_on, MadeByDeeds, MadeForFrames, MadeForCommands, MadeInTurns, AreAnswered, Lives, SeesLives}
use Rattle.crews.specs.Lives.{Known, known, known_at, known_of, Turn, Moves, exchanges_of}
use Rattle.crews.specs.Lives.Turn.{serves, sweeps}
use Rattle.crews.specs.Partings.{AllSaidIn, LacksPiece, OwesLast, SaidInPart, OwesInAll, IsCutShort, EndsSo, SaysSo}
use Rattle.crews.specs.Stations.{Station}
use Rattle.crews.specs.Steps.{CrewServes}
use Rattle.crews.specs.Talks.{AnswersCommands, BreaksCommands, AnswersEach, Talked, Breaks}
use Rattle.crews.specs.Whole.{CrewEvent, own, made_by_step, Joins}
use Rattle.crews.proofs.ChainLemmas.{order}
use Rattle.crews.proofs.DeedLemmas.{Did, piece_did, part_did, sweep_did, sweep_map}
use Rattle.crews.proofs.WholeLemmas.{Grows, Leads, stays, goes_on, nothing_grows, grows_on, grows_goes, makes_grows, same_goes, step_goes, sees_crews}

-- ---- on the stripe k

module _ (k : ℕ) where
  -- a pass that did these deeds made their events
  deeds_grow : (old : PassState) (deeds : List Deed) (new : PassState) (does : Does old deeds new) → Grows k old (done_on k old deeds new does) new
  deeds_grow old [] new same = nothing_grows k old new same
  deeds_grow old (deed ∷ deeds) new (mid, makes, later) =
      grows_on k old mid new (if deed.stripe == k then own_events old.view deed.actions else []) (done_on k mid deeds new later)
      (makes_grows k old mid deed.stripe deed.actions makes) (deeds_grow mid deeds new later)

  -- what a crew makes, and that it leads there
  abbrev Makes : Known → (List CrewEvent → Type 0) → Known → Type 0
  Makes old Is new = (made : List CrewEvent) × Is made × Leads k old made new

  did_makes : (old new : Known) → Did old.pass new.pass → new.pass.map ≡ old.pass.map → new.team ≡ old.team → Makes old (MadeByDeeds k old.pass new.pass) new
  did_makes old new (deeds, does) map team =
      let events = done_on k old.pass deeds new.pass does in
      (own events, (deeds, does, refl), grows_goes k old new events (deeds_grow old.pass deeds new.pass does) map team)

  -- ---- an exchange

  abbrev IsMade : Exchange Station → List CrewEvent → Type 0
  IsMade exchange made = MadeForFrames k exchange made ⊎ MadeForCommands k exchange made

  abbrev Exchanged : Exchange Station → Type 0
  Exchanged exchange = Makes (known exchange.old) (IsMade exchange) (known exchange.new)

  piece_made : (held : Held) (exchange : Exchange Station) (next : Held) → AnswersPiece CrewServes held exchange.old exchange.piece exchange.written next exchange.new → Exchanged exchange
  piece_made held exchange next (requests, feeds, (responses, answers, is)) =
      let made = in_order CrewServes (made_by_step k) (held_hello held) exchange.old exchange.new responses requests answers in (
        made,
        inl (held, next, (inl ((requests, feeds, (responses, answers, is)), refl))),
        order CrewServes (made_by_step k) (λ a xs b. Leads k (known a) xs (known b)) (λ s. stays k (known s)) (λ a b c xs ys. goes_on k (known a) (known b) (known c) xs ys) (step_goes k)
            (held_hello held) exchange.old exchange.new responses requests answers,
      )

  part_made : (held : Held) (exchange : Exchange Station) (next : Held) → BreaksPiece CrewServes held exchange.old exchange.piece exchange.written next exchange.new → Exchanged exchange
  part_made held exchange next (requests, feeds, b) =
      let hello = held_hello held in
      let behind = hello_behind hello b.done in
      let done = in_order CrewServes (made_by_step k) hello exchange.old b.mid b.answered.0 b.done b.answered.1 in
      let last = made_by_step k behind b.mid b.request b.responses exchange.new b.made in (
        done ++ last,
        inl (held, next, (inr ((requests, feeds, b), refl))),
        goes_on k (known exchange.old) (known b.mid) (known exchange.new) done last
            (order CrewServes (made_by_step k) (λ a xs b. Leads k (known a) xs (known b)) (λ s. stays k (known s)) (λ a b c xs ys. goes_on k (known a) (known b) (known c) xs ys) (step_goes k)
            hello exchange.old b.mid b.answered.0 b.done b.answered.1)
            (step_goes k behind b.mid b.request b.responses exchange.new b.made),
      )

  commands_made : (talk : TalkState) (exchange : Exchange Station) (next : TalkState) → AnswersCommands talk exchange next → Exchanged exchange
  commands_made talk exchange next a =
      let (made, is, leads) = did_makes (known exchange.old) (known exchange.new)
      (piece_did a.time a.refuses talk exchange.old.pass exchange.piece exchange.written next exchange.new.pass a.answers) a.map a.team in
      (made, inr (record { talk = talk; next = next; answers = inl a; calls = is }), leads)

  breaks_made : (talk : TalkState) (exchange : Exchange Station) (next : TalkState) → BreaksCommands talk exchange next → Exchanged exchange
  breaks_made talk exchange next a =
      let (made, is, leads) = did_makes (known exchange.old) (known exchange.new)
      (part_did a.time a.refuses talk exchange.old.pass exchange.piece exchange.written next exchange.new.pass a.breaks) a.map a.team in
      (made, inr (record { talk = talk; next = next; answers = inr a; calls = is }), leads)

  -- ---- the exchanges of a client

  abbrev Covers : List (Exchange Station) → Type 0
  Covers [] = Unit {0}
  Covers (exchange ∷ exchanges) = Exchanged exchange × Covers exchanges

  covers_both : (xs ys : List (Exchange Station)) → Covers xs → Covers ys → Covers (xs ++ ys)
  covers_both [] ys one more = more
  covers_both (x ∷ xs) ys (here, one) more = (here, covers_both xs ys one more)

  frames_covered : (held next : Held) (exchanges : List (Exchange Station)) → Converses CrewServes held exchanges next → Covers exchanges
  frames_covered held next [] same = tt
  frames_covered held next (exchange ∷ exchanges) (mid, answers, more) = (piece_made held exchange mid answers, frames_covered mid next exchanges more)

  commands_covered : (talk next : TalkState) (exchanges : List (Exchange Station)) → AnswersEach talk exchanges next → Covers exchanges
  commands_covered talk next [] same = tt
  commands_covered talk next (exchange ∷ exchanges) (mid, answers, more) = (commands_made talk exchange mid answers, commands_covered mid next exchanges more)

  talked_covered : (password : Option (List ℕ)) (exchanges : List (Exchange Station)) (talk : Talk) → Talked password exchanges talk → Covers exchanges
  talked_covered password exchanges (Frames held) converses = frames_covered (open_at None []) held exchanges converses
  talked_covered password exchanges (Commands talk) (number, each) = commands_covered (begun number password) talk exchanges each

  broken_made : (talk : Talk) (exchange : Exchange Station) (next : Talk) → Breaks talk exchange next → Exchanged exchange
  broken_made (Frames held) exchange (Frames next) breaks = part_made held exchange next breaks
  broken_made (Frames held) exchange (Commands next) breaks = absurd breaks
  broken_made (Commands talk) exchange (Frames next) breaks = absurd breaks
  broken_made (Commands talk) exchange (Commands next) breaks = breaks_made talk exchange next breaks

  said_covered : (password : Option (List ℕ)) (protocol : Protocol) (IsSo : Talk → Type 0) (exchanges : List (Exchange Station)) (read said : List ℕ) → AllSaidIn password protocol IsSo exchanges read said → Covers exchanges
  said_covered password protocol IsSo exchanges read said (talk, speaks, so, all) = talked_covered password exchanges talk all.talked

  lacks_covered : (password : Option (List ℕ)) (protocol : Protocol) (exchanges : List (Exchange Station)) (read said : List ℕ) → LacksPiece password protocol exchanges read said → Covers exchanges
  lacks_covered password protocol exchanges read said (taken, piece, is, some, all) = said_covered password protocol _ exchanges taken said all

  last_covered : (password : Option (List ℕ)) (protocol : Protocol) (exchanges : List (Exchange Station)) (read last said : List ℕ) → OwesLast password protocol exchanges read last said → Covers exchanges
  last_covered password protocol exchanges read last said (inl (fault, is, all)) = said_covered password protocol _ exchanges read said all
  last_covered password protocol exchanges read last said (inr (is, lacks)) = lacks_covered password protocol exchanges read said lacks

  in_part_covered : (password : Option (List ℕ)) (protocol : Protocol) (exchanges : List (Exchange Station)) (read said : List ℕ) → SaidInPart password protocol exchanges read said → Covers exchanges
  in_part_covered password protocol exchanges read said p =
      subst (λ (xs : List (Exchange Station)). Covers xs) (sym p.order)
      (covers_both p.done (p.last ∷ []) (talked_covered password p.done p.talk p.whole.talked) (broken_made p.talk p.last p.next p.breaks, tt))

  owes_covered : (password : Option (List ℕ)) (protocol : Protocol) (exchanges : List (Exchange Station)) (read whole : List ℕ) → OwesInAll password protocol exchanges read whole → Covers exchanges
  owes_covered password protocol exchanges read whole (inl all) = said_covered password protocol _ exchanges read whole all
  owes_covered password protocol exchanges read whole (inr (inl (last, before, owes, is))) = last_covered password protocol exchanges read last before owes
  owes_covered password protocol exchanges read whole (inr (inr part)) = in_part_covered password protocol exchanges read whole part

  cut_covered : (password : Option (List ℕ)) (protocol : Protocol) (exchanges : List (Exchange Station)) (read said : List ℕ) → IsCutShort password protocol exchanges read said → Covers exchanges
  cut_covered password protocol exchanges read said (whole, owes, front) = owes_covered password protocol exchanges read whole owes

  ends_covered : (password : Option (List ℕ)) (protocol : Protocol) (end : SessionEnd) (exchanges : List (Exchange Station)) (read said : List ℕ) → EndsSo password protocol end exchanges read said → Covers exchanges
  ends_covered password protocol Closed exchanges read said all = said_covered password protocol _ exchanges read said all
  ends_covered password protocol Cut exchanges read said all = said_covered password protocol _ exchanges read said all
  ends_covered password protocol (Refused fault) exchanges read said (before, all, is) = said_covered password protocol _ exchanges read before all
  ends_covered password protocol ReadFailed exchanges read said all = said_covered password protocol _ exchanges read said all
  ends_covered password protocol WriteFailed exchanges read said cut = cut_covered password protocol exchanges read said cut
  ends_covered password protocol NoMemory exchanges read said (before, lacks, is) = lacks_covered password protocol exchanges read before lacks

  says_covered : (password : Option (List ℕ)) (leaving : Option Parting) (talk : Talk) (exchanges : List (Exchange Station)) (read said : List ℕ) → SaysSo password leaving talk exchanges read said → Covers exchanges
  says_covered password None talk exchanges read said (opened, all) = talked_covered password exchanges talk all.talked
  says_covered password (Some (parting.Ended end)) talk exchanges read said ends = ends_covered password _ end exchanges read said ends
  says_covered password (Some parting.Over) talk exchanges read said all = said_covered password _ _ exchanges read said all
  says_covered password (Some parting.LetGo) talk exchanges read said cut = cut_covered password _ exchanges read said cut
  says_covered password (Some parting.NotKept) talk exchanges read said none = absurd none

  answered_covered : (exchanges : List (Exchange Station)) → (exchanges ≡ []) ⊎ AreAnswered exchanges → Covers exchanges
  answered_covered exchanges (inl none) = subst (λ (xs : List (Exchange Station)). Covers xs) (sym none) tt
  answered_covered exchanges (inr (password, leaving, talk, read, said, says)) = says_covered password leaving talk exchanges read said says

  -- ---- turns

  first_covered : (b : Bool) (x : Exchange Station) (xs : List (Exchange Station)) → b ≡ true → Covers ((if b then x ∷ [] else []) ++ xs) → Exchanged x
  first_covered true x xs is (here, more) = here
  first_covered false x xs is covers = absurd cc

  rest_covered : (b : Bool) (x : Exchange Station) (xs : List (Exchange Station)) → Covers ((if b then x ∷ [] else []) ++ xs) → Covers xs
  rest_covered true x xs (here, more) = more
  rest_covered false x xs covers = covers

  turns_make : (old : Known) (turns : List Turn) (new : Known) → Moves old turns new → ((client : ℕ) → Covers (exchanges_of client turns)) → Makes old (MadeInTurns k old turns) new
  turns_make old [] new same covers = ([], refl, same_goes k old new same)
  turns_make old (serves client x ∷ turns) new (begins, moves) covers =
      let (here, is, leads) = first_covered (client == client) x (exchanges_of client turns) (eq-eqb client client refl) (covers client) in
      let (later, are, more) = turns_make (known x.new) turns new moves (λ other. rest_covered (client == other) x (exchanges_of other turns) (covers other)) in (
        here ++ later,
        (here, later, is, are, refl),
        goes_on k old (known x.new) new here later (subst (λ (a : Known). Leads k a here (known x.new)) begins leads) more,
      )
  turns_make old (sweeps time pass ∷ turns) new (swept, moves) covers =
      let mid : Known = record old { pass = pass } in
      let (here, is, leads) = did_makes old mid (sweep_did time old.pass pass swept) (sweep_map time old.pass pass swept) refl in
      let (later, are, more) = turns_make mid turns new moves covers in
      (here ++ later, (here, later, is, are, refl), goes_on k old mid new here later leads more)

  life_makes : (old : Known) (turns : List Turn) (new : Known) → Lives old turns new → Makes old (MadeInTurns k old turns) new
  life_makes old turns new lives = turns_make old turns new lives.moves (λ client. answered_covered (exchanges_of client turns) (lives.each client))

-- it joins the passes of a crew, however strict the server is
joins_at : (k : ℕ) (strict : Bool) (crew : Crew) (pass : PassState) → Joins k (known_of crew) pass → Joins k (known_at strict crew) pass
joins_at k strict crew pass joins = record { mine = joins.mine; begins = joins.begins }

-- what two crews made in their lives is in the pass that joins all their passes
pub sees_lives : (one other : Crew) (left right joined : PassState)
    → ((k : ℕ) → k < stripes_of joined.map → Joins k (known_of one) left) → ((k : ℕ) → k < stripes_of joined.map → Joins k (known_of other) right)
    → one.pass.map ≡ joined.map → other.pass.map ≡ joined.map
    → IsJoined (stripes_of joined.map) left.view right.view joined.view → Sound (stripes_of joined.map) joined.view → SeesLives one other joined
sees_lives one other left right joined joins joins_other map map_other is sound first second turns others k lives also of_first of_second lt =
    let at_one = known_at first.is_strict one in
    let at_other = known_at second.is_strict other in
    let (made, are, leads) = life_makes k first turns at_one lives in
    let (later, are_later, more) = life_makes k second others at_other also in (
      made,
      later,
      are,
      are_later,
      sees_crews k first made at_one second later at_other left right joined
          (leads (low first at_one lives.numbers.map_is map, of_first)) (more (low second at_other also.numbers.map_is map_other, of_second))
          (joins_at k first.is_strict one left (joins k lt)) (joins_at k second.is_strict other right (joins_other k lt)) lt is sound,
    ) where
      low : (old new : Known) → new.pass.map ≡ old.pass.map → new.pass.map ≡ joined.map → k < stripes_of old.pass.map
      low old new same at = subst (λ (n : ℕ). k < n) (ap stripes_of (sym at ∙ same)) lt
