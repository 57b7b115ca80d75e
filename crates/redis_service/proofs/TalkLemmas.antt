-- Commands that are answered one after the other, and how that stops.
use Rattle.std.proofs.Common.{◌≡◌, ℕ, Bool, true, false, List, [], ◌∷◌, ◌++◌, length, flat_map, Option, None, Result, Ok, Err, refl, sym, ap, subst, ◌∙◌, inl, inr, append_assoc, arith}
use Rattle.std.proofs.lemmas.List.{append-nil, length-append}
use Rattle.resp.specs.Grammar.{IsBegun}
use Rattle.std.proofs.lemmas.List.Concat.{flat_map-append}
use Rattle.devices.specs.Devices.{SinkState, TakesBytes, TakesPart, TakesThenFails}
use Rattle.bin_stripes.specs.Passes.{PassState}
use Rattle.std.specs.Borrow.{Bor}
use Rattle.resp.specs.declared.command.Next.TheVariants.{Command, Nothing}
use Rattle.resp.specs.declared.fault.NextFault.{NextFault}
use Rattle.redis_service.specs.declared.desk.TalkEnd.{TalkEnd}
use Rattle.redis_service.specs.declared.desk.TalkEnd.TheVariants as end
use Rattle.redis_service.specs.Reads.{ReadsNext}
use Rattle.redis_service.specs.Commands.{AnswersWords}
use Rattle.redis_service.specs.Talks.{TalkState, ended, Said, AnswersSaid, AnswersEach, AnswersSome, AnswersBytes, BreaksBytes, waits}
use Rattle.redis_service.specs.Stops.{Stops, AnswersAll, FailsAt, TellsEnd, FailsEnd, TellsLast, Taken}
use Rattle.redis_service.proofs.SendLemmas.{takes_then, cut_after}

-- one more
each_more : (now : ℕ) (refuses : Bool) → (talk mid next : TalkState) (old between new : PassState) (said : List Said) (one : Said) → AnswersEach now refuses talk old said mid between → mid.is_over ≡ false
    → AnswersSaid now refuses mid between one next new → AnswersEach now refuses talk old (said ++ one ∷ []) next new
each_more now refuses talk mid next old between new [] one (same-talk, same) goes answers = (
  next,
  new,
  subst (λ (t : TalkState). t.is_over ≡ false) same-talk goes,
  subst (λ (t : TalkState). AnswersSaid now refuses t old one next new) same-talk (subst (λ (p : PassState). AnswersSaid now refuses mid p one next new) same answers),
  (refl, refl),
)
each_more now refuses talk mid next old between new (first ∷ said) one (t, p, is-goes, does, later) goes answers =
    (t, p, is-goes, does, each_more now refuses t mid next p between new said one later goes answers)

-- nothing was read
pub some_none : (now : ℕ) (refuses : Bool) → (talk : TalkState) (old : PassState) (bytes : List ℕ) → AnswersSome now refuses talk old bytes [] talk old bytes
some_none now refuses talk old bytes = record { said = []; each = (refl, refl); read_is = refl; written_is = refl }

pub some_more : (now : ℕ) (refuses : Bool) → (talk mid next : TalkState) (old between new : PassState) (bytes written rest behind : List ℕ) (one : Said)
    → AnswersSome now refuses talk old bytes written mid between rest → mid.is_over ≡ false → rest ≡ one.read ++ behind → AnswersSaid now refuses mid between one next new
    → AnswersSome now refuses talk old bytes (written ++ one.written) next new behind
some_more now refuses talk mid next old between new bytes written rest behind one some goes is answers = record {
  said = some.said ++ one ∷ [];
  each = each_more now refuses talk mid next old between new some.said one some.each goes answers;
  read_is =
      some.read_is ∙ ap (λ (t : List ℕ). flat_map (λ (s : Said). s.read) some.said ++ t) is ∙ sym (append_assoc (flat_map (λ (s : Said). s.read) some.said) one.read behind)
      ∙ ap (λ (t : List ℕ). t ++ behind)
      (ap (λ (t : List ℕ). flat_map (λ (s : Said). s.read) some.said ++ t) (sym (append-nil one.read)) ∙ sym (flat_map-append (λ (s : Said). s.read) some.said (one ∷ [])));
  written_is =
      ap (λ (t : List ℕ). t ++ one.written) some.written_is
      ∙ (ap (λ (t : List ℕ). flat_map (λ (s : Said). s.written) some.said ++ t) (sym (append-nil one.written)) ∙ sym (flat_map-append (λ (s : Said). s.written) some.said (one ∷ [])));
}

-- a command was read and answered
pub step_command : (now : ℕ) (refuses : Bool) (after : Bor (List ℕ)) → (a b c : SinkState) (talk mid next : TalkState) (old between new : PassState) (bytes rest behind : List ℕ) (words : List (List ℕ))
    → (written : List ℕ) × TakesBytes a b written × AnswersSome now refuses talk old bytes written mid between rest → mid.is_over ≡ false → ReadsNext (Ok (Command after)) rest words behind
    → (more : List ℕ) × TakesBytes b c more × AnswersWords now refuses mid between words more next new
    → (written : List ℕ) × TakesBytes a c written × AnswersSome now refuses talk old bytes written next new behind
step_command now refuses after a b c talk mid next old between new bytes rest behind words (written, taken, some) goes ((read, is, spells), shorter) (more, sent, answers) = (
  written ++ more,
  takes_then a b c written more taken sent,
  some_more now refuses talk mid next old between new bytes written rest behind (record { read = read; written = more }) some goes is (inr (words, spells, answers)),
)

-- something was read that is ignored
pub step_nothing : (now : ℕ) (refuses : Bool) (after : Bor (List ℕ)) → (a b : SinkState) (talk mid : TalkState) (old between : PassState) (bytes rest behind : List ℕ) (words : List (List ℕ))
    → (written : List ℕ) × TakesBytes a b written × AnswersSome now refuses talk old bytes written mid between rest → mid.is_over ≡ false → ReadsNext (Ok (Nothing after)) rest words behind
    → (written : List ℕ) × TakesBytes a b written × AnswersSome now refuses talk old bytes written mid between behind
step_nothing now refuses after a b talk mid old between bytes rest behind words (written, taken, some) goes ((read, is, ignored), shorter) = (
  written,
  taken,
  subst (λ (t : List ℕ). AnswersSome now refuses talk old bytes t mid between behind) (append-nil written)
      (some_more now refuses talk mid mid old between between bytes written rest behind (record { read = read; written = [] }) some goes is (inl (ignored, refl, refl, refl))),
)

-- a command was read and made, and a write of its answer failed
pub step_fails : (now : ℕ) (refuses : Bool) (after : Bor (List ℕ)) → (a b c : SinkState) (talk mid next : TalkState) (old between new : PassState) (bytes rest behind : List ℕ) (words : List (List ℕ))
    → (written : List ℕ) × TakesBytes a b written × AnswersSome now refuses talk old bytes written mid between rest → ReadsNext (Ok (Command after)) rest words behind
    → (more : List ℕ) × TakesPart b c more × AnswersWords now refuses mid between words more next new → FailsAt now refuses a c talk old bytes next new
step_fails now refuses after a b c talk mid next old between new bytes rest behind words (written, taken, some) ((read, is, spells), shorter) (more, sent, answers) =
    let (part, cut, both) = cut_after a b c written more taken sent in
    record {
      written = written;
      last = mid;
      between = between;
      rest = rest;
      some = some;
      said = record { read = read; written = more };
      behind = behind;
      rest_is = is;
      answers = inr (words, spells, answers);
      part = part;
      cut = cut;
      taken = both;
    }

-- all was answered, and the end told
pub answers_of : (now : ℕ) (refuses : Bool) → (a b c : SinkState) (talk mid next : TalkState) (old new : PassState) (bytes rest : List ℕ) (fault : Option NextFault) → AnswersAll now refuses a b talk old bytes fault mid new rest
    → TellsEnd b c rest mid next → (written : List ℕ) × TakesBytes a c written × AnswersBytes now refuses talk old bytes written next new
answers_of now refuses a b c talk mid next old new bytes rest fault all end = (
  all.written ++ end.tail,
  takes_then a b c all.written end.tail all.taken end.taken,
  record { last = mid; before = all.written; rest = rest; some = all.some; ending = end.ending; tail = end.tail; ends = end.ends; written_is = refl },
)

-- a write of the answer to a command failed
pub breaks_of_fails : (now : ℕ) (refuses : Bool) → (a c : SinkState) (talk mid next : TalkState) (old new : PassState) (bytes : List ℕ) → FailsAt now refuses a c talk old bytes mid new → next ≡ ended mid
    → (written : List ℕ) × TakesThenFails a c written × BreaksBytes now refuses talk old bytes written next new
breaks_of_fails now refuses a c talk mid next old new bytes fails is = (
  fails.written ++ fails.part,
  fails.taken,
  record {
    last = fails.last;
    between = fails.between;
    before = fails.written;
    rest = fails.rest;
    some = fails.some;
    whole = fails.said.written;
    answers = inl (fails.said, fails.behind, mid, fails.rest_is, refl, fails.answers, is);
    part = fails.part;
    cut = fails.cut;
    written_is = refl;
    over = ap (λ (t : TalkState). t.is_over) is;
  },
)

-- a write of what is told at the end failed
pub breaks_of_end : (now : ℕ) (refuses : Bool) → (a b c : SinkState) (talk mid next : TalkState) (old new : PassState) (bytes rest : List ℕ) (fault : Option NextFault) → AnswersAll now refuses a b talk old bytes fault mid new rest
    → FailsEnd b c rest mid next → next.is_over ≡ true → (written : List ℕ) × TakesThenFails a c written × BreaksBytes now refuses talk old bytes written next new
breaks_of_end now refuses a b c talk mid next old new bytes rest fault all end over =
    let (part, cut, both) = cut_after a b c all.written end.tail all.taken end.taken in (
      all.written ++ part,
      both,
      record {
        last = mid;
        between = new;
        before = all.written;
        rest = rest;
        some = all.some;
        whole = end.tail;
        answers = inr (end.ending, end.ends, refl);
        part = part;
        cut = cut;
        written_is = refl;
        over = over;
      },
    )

last_of_more : (talk : TalkState) (rest : List ℕ) → Stops None talk rest → talk.is_over ≡ false → IsBegun rest
last_of_more talk rest stops goes = elim stops [ inl over ↦ absurd cc | inr last ↦ last.1 ]

-- nothing was read: the rest is all
rest_is_all : (read rest bytes : List ℕ) → bytes ≡ read ++ rest → length rest ≡ length bytes → rest ≡ bytes
rest_is_all [] rest bytes is long = sym is
rest_is_all (b ∷ read) rest bytes is long = absurd (omega (arith, ap length is, length-append (b ∷ read) rest))

-- no command is whole, and all of the bytes are kept
pub answers_held : (now : ℕ) (refuses : Bool) → (a b : SinkState) (talk mid next : TalkState) (old new : PassState) (bytes rest : List ℕ) (fault : Option NextFault) → AnswersAll now refuses a b talk old bytes fault mid new rest
    → length rest ≡ length bytes → fault ≡ None → mid.is_over ≡ false → next ≡ record mid { rest = bytes }
    → (next.is_over ≡ false) × ((written : List ℕ) × TakesBytes a b written × AnswersBytes now refuses talk old bytes written next new)
answers_held now refuses a b talk mid next old new bytes rest fault all long is goes end =
    let same : rest ≡ bytes = rest_is_all (flat_map (λ (s : Said). s.read) all.some.said) rest bytes all.some.read_is long in
    let begun : IsBegun rest = last_of_more mid rest (subst (λ (f : Option NextFault). Stops f mid rest) is all.stops) goes in (
      ap (λ (t : TalkState). t.is_over) end ∙ goes,
      (
        all.written,
        all.taken,
        record {
          last = mid;
          before = all.written;
          rest = rest;
          some = all.some;
          ending = waits;
          tail = [];
          ends = (begun, goes, refl, end ∙ ap (λ (t : List ℕ). record mid { rest = t }) (sym same));
          written_is = sym (append-nil all.written);
        },
      ),
    )

-- what came of the end is what came of all
pub taken_of : (now : ℕ) (refuses : Bool) (result : Result (Unit {0}) TalkEnd) (a b c : SinkState) (talk mid next : TalkState) (old new : PassState) (bytes rest : List ℕ) (fault : Option NextFault)
    → AnswersAll now refuses a b talk old bytes fault mid new rest → TellsLast result b c rest mid next → Taken now refuses result a c talk old bytes next new
taken_of now refuses (Ok _) a b c talk mid next old new bytes rest fault all (tells, over) = (over, answers_of now refuses a b c talk mid next old new bytes rest fault all tells)
taken_of now refuses (Err end.Over) a b c talk mid next old new bytes rest fault all (tells, over) =
    (over, answers_of now refuses a b c talk mid next old new bytes rest fault all tells)
taken_of now refuses (Err end.NoMemory) a b c talk mid next old new bytes rest fault all none = none
taken_of now refuses (Err end.WriteFailed) a b c talk mid next old new bytes rest fault all (fails, over) =
    breaks_of_end now refuses a b c talk mid next old new bytes rest fault all fails over
