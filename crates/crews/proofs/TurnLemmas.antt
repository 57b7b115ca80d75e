-- How a client stands after a turn.
use Rattle.std.proofs.Common.{◌≡◌, ℕ, List, [], ◌++◌, Bool, false, Option, Some, None, is_some, refl, sym, ap, subst, ◌∙◌, append-nil, append_assoc, inl, inr}
use Rattle.std.specs.Io.KnownBytes.{Consumes, Keeps}
use Rattle.std.proofs.KnownBytes.{Appends-trans, Appends-kept, Consumes-trans, Consumes-kept}
use Rattle.client_protocol.specs.Faults.{protocol_fault_number}
use Rattle.program_registry.specs.declared.registry.Registry.{Registry}
use Rattle.devices.specs.Channels.{ChannelState, TakesOwed, IsKept}
use Rattle.sessions.specs.Conversations.{Exchange}
use Rattle.sessions.specs.OwedAnswers.{OwedState}
use Rattle.sessions.specs.Sessions.{refusal}
use Rattle.sessions.proofs.PartLemmas.{sent_none}
use Rattle.sessions.specs.declared.session.SessionEnd.TheVariants as session
use Rattle.crews.specs.declared.clients.Parting.{Parting}
use Rattle.crews.specs.declared.clients.Parting.TheVariants.{Ended, Over, LetGo, NotKept}
use Rattle.crews.specs.declared.clients.Protocol.{Protocol}
use Rattle.crews.specs.declared.talk.Talk.{Talk}
use Rattle.crews.specs.Stations.{KeptTokens, no_tokens, Station}
use Rattle.crews.specs.Talks.{protocol_of, IsOpen, IsBetween, IsInside}
use Rattle.crews.specs.Partings.{IsCutShort, PartsSo, SaysSo, no_memory_told}
use Rattle.crews.specs.Lives.{Arrival, Known, Stands}
use Rattle.crews.specs.Turns.{SaysMore, SaysAndSends, TurnsTo}
use Rattle.crews.proofs.LifeLemmas.{tokens_go_on, numbers_stay}
use Rattle.crews.proofs.PieceLemmas.{front_all, front_of_front}

-- it is not leaving
pub none_leaving : (leaving : Option Parting) (test : Bool) → test ≡ is_some leaving → test ≡ false → leaving ≡ None
none_leaving None test is unset = refl
none_leaving (Some parting) test is unset = absurd cc

-- over the password that clients of commands have to show, if there is one
module _ (password : Option (List ℕ)) where
  -- ---- the client sends no more

  pub closed_now : (talk : Talk) (exchanges : List (Exchange Station)) (read said : List ℕ) → (IsOpen talk → IsBetween talk) → SaysSo password None talk exchanges read said → SaysSo password (Some (Ended session.Closed)) talk exchanges read said
  closed_now talk exchanges read said between (opened, all) = (talk, refl, between opened, all)

  pub cut_now : (talk : Talk) (exchanges : List (Exchange Station)) (read said : List ℕ) → (IsOpen talk → IsInside talk) → SaysSo password None talk exchanges read said → SaysSo password (Some (Ended session.Cut)) talk exchanges read said
  cut_now talk exchanges read said inside (opened, all) = (talk, refl, inside opened, all)

  pub failed_now : (talk : Talk) (exchanges : List (Exchange Station)) (read said : List ℕ) → SaysSo password None talk exchanges read said → SaysSo password (Some (Ended session.ReadFailed)) talk exchanges read said
  failed_now talk exchanges read said (opened, all) = (talk, refl, opened, all)

  -- ---- however it stands, what was said is a front of what it is owed in all

  pub any_cut : (leaving : Option Parting) (talk : Talk) (exchanges : List (Exchange Station)) (read said : List ℕ) → SaysSo password leaving talk exchanges read said → IsCutShort password (protocol_of talk) exchanges read said
  any_cut None talk exchanges read said (opened, all) = (said, inl (talk, refl, tt, all), front_all said)
  any_cut (Some (Ended session.Closed)) talk exchanges read said (last, speaks, is, all) = (said, inl (last, speaks, tt, all), front_all said)
  any_cut (Some (Ended session.Cut)) talk exchanges read said (last, speaks, is, all) = (said, inl (last, speaks, tt, all), front_all said)
  any_cut (Some (Ended (session.Refused fault))) talk exchanges read said (before, all, is) =
      (said, inr (inl (refusal (protocol_fault_number fault), before, inl (fault, refl, all), is)), front_all said)
  any_cut (Some (Ended session.ReadFailed)) talk exchanges read said (last, speaks, is, all) = (said, inl (last, speaks, tt, all), front_all said)
  any_cut (Some (Ended session.WriteFailed)) talk exchanges read said cut = cut
  any_cut (Some (Ended session.NoMemory)) talk exchanges read said (before, lacks, is) =
      (said, inr (inl (no_memory_told (protocol_of talk), before, inr (refl, lacks), is)), front_all said)
  any_cut (Some Over) talk exchanges read said (last, speaks, is, all) = (said, inl (last, speaks, tt, all), front_all said)
  any_cut (Some LetGo) talk exchanges read said cut = cut
  any_cut (Some NotKept) talk exchanges read said none = absurd none

  pub cut_front : (protocol : Protocol) (exchanges : List (Exchange Station)) (read written rest : List ℕ) → IsCutShort password protocol exchanges read (written ++ rest) → IsCutShort password protocol exchanges read written
  cut_front protocol exchanges read written rest (whole, owes, front) = (whole, owes, front_of_front written rest whole front)

  -- nothing is owed
  pub none_owed : (protocol : Protocol) (parting : Parting) (exchanges : List (Exchange Station)) (read written rest : List ℕ) → rest ≡ [] → PartsSo password protocol parting exchanges read (written ++ rest) → PartsSo password protocol parting exchanges read written
  none_owed protocol parting exchanges read written rest none parts = subst (λ (t : List ℕ). PartsSo password protocol parting exchanges read t) (ap (λ (t : List ℕ). written ++ t) none ∙ append-nil written) parts

-- ---- how it stands after a turn

-- the connection took nothing meanwhile
pub sends_none : (now : ChannelState) (password : Option (List ℕ)) (old new : Known) (exchanges : List (Exchange Station)) (tokens after : KeptTokens) (talk : Talk) (leaving : Option Parting) (read said : List ℕ) (owed more : OwedState)
    → SaysMore password old new exchanges tokens after talk leaving read said owed.rest more.rest → SaysAndSends now now password old new exchanges tokens after talk leaving read said owed more
sends_none now password old new exchanges tokens after talk leaving read said owed more says = (more, sent_none now more, says)

module _ {C : Type 0} (state : C → ChannelState) (registry : Registry) (password : Option (List ℕ)) where
  -- nothing was read or written
  pub stands_kept : (came : Arrival C) (now next : C) (exchanges : List (Exchange Station)) (tokens : KeptTokens) (talk : Talk) (owed : OwedState) (leaving after : Option Parting)
      → IsKept (state now) (state next) → ((read said : List ℕ) → SaysSo password leaving talk exchanges read said → SaysSo password after talk exchanges read said) → (after ≡ None → leaving ≡ None)
      → Stands state registry password came now exchanges tokens talk owed leaving → Stands state registry password came next exchanges tokens talk owed after
  stands_kept came now next exchanges tokens talk owed leaving after kept turn still stands = record {
    speaks = stands.speaks;
    read = stands.read;
    written = stands.written;
    consumed = Consumes-kept (state came.channel).left (state now).left (state next).left stands.read stands.consumed kept.0;
    appended = Appends-kept (state came.channel).held (state now).held (state next).held stands.written stands.appended kept.1;
    of = stands.of;
    keeps = stands.keeps;
    says = turn stands.read (stands.written ++ owed.rest) stands.says;
    unfailed = λ none. stands.unfailed (still none);
  }

  -- no exchange was added
  pub turns_quietly : (passes : Known) (came : Arrival C) (now : C) (exchanges : List (Exchange Station)) (tokens : KeptTokens) (talk : Talk) (owed : OwedState) (leaving : Option Parting)
      → Stands state registry password came now exchanges tokens talk owed leaving → TurnsTo state registry password passes passes came now exchanges tokens talk owed leaving
  turns_quietly passes came now exchanges tokens talk owed leaving stands = record {
    more = [];
    moves = refl;
    numbers = numbers_stay passes;
    stands = subst (λ (es : List (Exchange Station)). Stands state registry password came now es tokens talk owed leaving) (sym (append-nil exchanges)) stands;
  }

  -- what is owed was taken, or a front of it
  pub stands_told : (came : Arrival C) (now next : C) (exchanges : List (Exchange Station)) (tokens : KeptTokens) (talk : Talk) (owed left : OwedState) (leaving : Option Parting)
      → TakesOwed (state now) (state next) owed.rest left.rest → left.failures ≡ owed.failures → Stands state registry password came now exchanges tokens talk owed leaving → Stands state registry password came next exchanges tokens talk left leaving
  stands_told came now next exchanges tokens talk owed left leaving takes failures stands = record {
    speaks = stands.speaks;
    read = stands.read;
    written = stands.written ++ takes.front;
    consumed = Consumes-kept (state came.channel).left (state now).left (state next).left stands.read stands.consumed takes.unread;
    appended = Appends-trans (state came.channel).held (state now).held (state next).held stands.written takes.front stands.appended takes.taken;
    of = stands.of;
    keeps = stands.keeps;
    says = subst (λ (t : List ℕ). SaysSo password leaving talk exchanges stands.read t)
        (ap (λ (t : List ℕ). stands.written ++ t) takes.parts ∙ sym (append_assoc stands.written takes.front left.rest)) stands.says;
    unfailed = λ none. failures ∙ stands.unfailed none;
  }

  -- a piece was read and answered, and some of what is owed was taken meanwhile
  pub turns_by_piece : (old new : Known) (came : Arrival C) (now mid next : C) (exchanges : List (Exchange Station)) (tokens after : KeptTokens) (talk later : Talk) (owed left : OwedState) (leaving : Option Parting) (piece : List ℕ)
      → Consumes (state now).left (state mid).left piece → Keeps (state now).held (state mid).held
      → ((read said : List ℕ) → SaysSo password None talk exchanges read said → SaysAndSends (state mid) (state next) password old new exchanges tokens after later leaving (read ++ piece) said owed left)
      → protocol_of later ≡ protocol_of talk → (leaving ≡ None → left.failures ≡ 0)
      → Stands state registry password came now exchanges tokens talk owed None → TurnsTo state registry password old new came next exchanges after later left leaving
  turns_by_piece old new came now mid next exchanges tokens after talk later owed left leaving piece consumed kept says speaks unfailed stands =
      let (whole, sent, m) = says stands.read (stands.written ++ owed.rest) stands.says in
      let answered : Stands state registry password came mid (exchanges ++ m.more) after later whole leaving = record {
        speaks = speaks ∙ stands.speaks;
        read = stands.read ++ piece;
        written = stands.written;
        consumed = Consumes-trans (state came.channel).left (state now).left (state mid).left stands.read piece stands.consumed consumed;
        appended = Appends-kept (state came.channel).held (state now).held (state mid).held stands.written stands.appended kept;
        of = m.of ∙ stands.of;
        keeps = tokens_go_on (no_tokens registry) tokens after exchanges m.more stands.keeps m.keeps;
        says = subst (λ (t : List ℕ). SaysSo password leaving later (exchanges ++ m.more) (stands.read ++ piece) t)
            (append_assoc stands.written owed.rest m.grown ∙ ap (λ (t : List ℕ). stands.written ++ t) (sym m.owed_is)) m.says;
        unfailed = λ none. sym sent.1 ∙ unfailed none;
      } in
      record {
        more = m.more;
        moves = m.moves;
        numbers = m.numbers;
        stands = stands_told came mid next (exchanges ++ m.more) after later whole left leaving sent.0 sent.1 answered;
      }

  -- and then the room for it was given up
  pub stands_settled : (came : Arrival C) (now next : C) (exchanges : List (Exchange Station)) (tokens : KeptTokens) (talk : Talk) (owed left settled : OwedState) (leaving : Option Parting)
      → TakesOwed (state now) (state next) owed.rest left.rest → left.failures ≡ owed.failures → settled ≡ left → Stands state registry password came now exchanges tokens talk owed leaving → Stands state registry password came next exchanges tokens talk settled leaving
  stands_settled came now next exchanges tokens talk owed left settled leaving takes failures is stands =
      subst (λ (o : OwedState). Stands state registry password came next exchanges tokens talk o leaving) (sym is)
      (stands_told came now next exchanges tokens talk owed left leaving takes failures stands)

  -- it leaves, whatever it is owed
  pub stands_leaving : (came : Arrival C) (now : C) (exchanges : List (Exchange Station)) (tokens : KeptTokens) (talk : Talk) (owed : OwedState) (leaving : Option Parting) (parting : Parting)
      → ((exchanges : List (Exchange Station)) (read said : List ℕ) → IsCutShort password (protocol_of talk) exchanges read said → SaysSo password (Some parting) talk exchanges read said)
      → Stands state registry password came now exchanges tokens talk owed leaving → Stands state registry password came now exchanges tokens talk owed (Some parting)
  stands_leaving came now exchanges tokens talk owed leaving parting cut stands = record {
    speaks = stands.speaks;
    read = stands.read;
    written = stands.written;
    consumed = stands.consumed;
    appended = stands.appended;
    of = stands.of;
    keeps = stands.keeps;
    says = cut exchanges stands.read (stands.written ++ owed.rest) (any_cut password leaving talk exchanges stands.read (stands.written ++ owed.rest) stands.says);
    unfailed = λ none. absurd cc;
  }

  -- further turns after these
  pub then_stands : (old new : Known) (came : Arrival C) (now next : C) (exchanges : List (Exchange Station)) (tokens after : KeptTokens) (talk later : Talk) (owed left : OwedState) (leaving last : Option Parting)
      → (t : TurnsTo state registry password old new came now exchanges tokens talk owed leaving) → (Stands state registry password came now (exchanges ++ t.more) tokens talk owed leaving → Stands state registry password came next (exchanges ++ t.more) after later left last)
      → TurnsTo state registry password old new came next exchanges after later left last
  then_stands old new came now next exchanges tokens after talk later owed left leaving last t goes = record {
    more = t.more;
    moves = t.moves;
    numbers = t.numbers;
    stands = goes t.stands;
  }
