-- Requests that are answered in parts, and what a connection takes between them.
use Rattle.std.proofs.Common.{◌≡◌, ℕ, ◌+◌, List, [], ◌∷◌, ◌++◌, Option, Some, refl, sym, ap, subst, ◌∙◌, append_assoc, append-nil}
use Rattle.std.proofs.KnownBytes.{Appends-nil}
use Rattle.client_protocol.specs.declared.limits.Version.{Version}
use Rattle.client_protocol.specs.Requests.{Request}
use Rattle.client_protocol.specs.declared.response.Response.{Response}
use Rattle.devices.specs.Channels.{ChannelState, TakesOwed}
use Rattle.devices.specs.Devices.{TakesBytes, TakesThenFails}
use Rattle.devices.proofs.ChannelLemmas.{takes_none, takes_both}
use Rattle.sessions.specs.Answering.{hello_behind, Answered, BreaksOff}
use Rattle.sessions.specs.OwedAnswers.{OwedState, IsSent, sink_of}
use Rattle.sessions.proofs.AnsweringLemmas.{takes_then, hello_behind_both, answered_none, answered_then, breaks_then}

-- nothing was owed or sent
pub sent_none : (state : ChannelState) (owed : OwedState) → IsSent state state owed owed
sent_none state owed = (takes_none state owed.rest, refl)

-- more is owed after what was left
pub sent_before : (old new : ChannelState) (owed left more : List ℕ) → TakesOwed old new owed left → TakesOwed old new (owed ++ more) (left ++ more)
sent_before old new owed left more takes = record {
  front = takes.front;
  parts = ap (λ (t : List ℕ). t ++ more) takes.parts ∙ append_assoc takes.front left more;
  taken = takes.taken;
  unread = takes.unread;
}

module _ {S : Type 0} (Answers : Option Version → S → Request → List Response → S → Type 0) where
  -- the requests before the rest are answered, and all that is owed for them is whole, of which this is left
  pub record AnsweredSoFar (start now : ChannelState) (owed left : OwedState) (hello here : Option Version) (old new : S) (all rest : List Request) : Type 0 where
    pub done : List Request
    pub order : all ≡ done ++ rest
    pub behind : here ≡ hello_behind hello done
    pub whole : OwedState
    pub sent : IsSent start now whole left
    pub written : List ℕ
    pub takes : TakesBytes (sink_of owed) (sink_of whole) written
    pub answered : Answered Answers hello old done written new

  -- none is
  pub none_so_far : (start : ChannelState) (owed : OwedState) (hello : Option Version) (old : S) (all : List Request) → AnsweredSoFar start start owed owed hello hello old old all all
  none_so_far start owed hello old all = record {
    done = [];
    order = refl;
    behind = refl;
    whole = owed;
    sent = sent_none start owed;
    written = [];
    takes = (Appends-nil (Some owed.rest), refl);
    answered = answered_none Answers hello old;
  }

  -- more was sent
  pub sent_more : (start now next : ChannelState) (owed left less : OwedState) (hello here : Option Version) (old new : S) (all rest : List Request) → TakesOwed now next left.rest less.rest → less.failures ≡ left.failures
      → AnsweredSoFar start now owed left hello here old new all rest → AnsweredSoFar start next owed less hello here old new all rest
  sent_more start now next owed left less hello here old new all rest takes count s = record {
    done = s.done;
    order = s.order;
    behind = s.behind;
    whole = s.whole;
    sent = (takes_both start now next s.whole.rest left.rest less.rest s.sent.0 takes, count ∙ s.sent.1);
    written = s.written;
    takes = s.takes;
    answered = s.answered;
  }

  -- a part of the rest is answered
  pub part_answered : (start now : ChannelState) (owed left more : OwedState) (hello here next : Option Version) (old mid new : S) (all rest part later : List Request) → rest ≡ part ++ later → next ≡ hello_behind here part
      → ((w : List ℕ) × TakesBytes (sink_of left) (sink_of more) w × Answered Answers here mid part w new)
      → AnsweredSoFar start now owed left hello here old mid all rest → AnsweredSoFar start now owed more hello next old new all later
  part_answered start now owed left more hello here next old mid new all rest part later parts is (w, takes, answered) s =
      let whole : OwedState = record { rest = s.whole.rest ++ w; failures = s.whole.failures } in
      record {
        done = s.done ++ part;
        order = s.order ∙ ap (λ (t : List Request). s.done ++ t) parts ∙ sym (append_assoc s.done part later);
        behind = is ∙ ap (λ (h : Option Version). hello_behind h part) s.behind ∙ sym (hello_behind_both hello s.done part);
        whole = whole;
        sent = (subst (λ (t : List ℕ). TakesOwed start now (s.whole.rest ++ w) t) (sym takes.0) (sent_before start now s.whole.rest left.rest w s.sent.0), takes.1 ∙ s.sent.1);
        written = s.written ++ w;
        takes = takes_then (sink_of owed) (sink_of s.whole) (sink_of whole) s.written w s.takes (refl, refl);
        answered = answered_then Answers hello old mid new s.done part s.written w s.answered (subst (λ (h : Option Version). Answered Answers h mid part w new) s.behind answered);
      }

  -- the answers to a front of the requests break off, and so those to all
  pub breaks_before : (hello : Option Version) (old new : S) (rs more : List Request) (w : List ℕ) → BreaksOff Answers hello old rs w new → BreaksOff Answers hello old (rs ++ more) w new
  breaks_before hello old new rs more w b = record {
    done = b.done;
    request = b.request;
    left = b.left ++ more;
    before = b.before;
    mid = b.mid;
    responses = b.responses;
    part = b.part;
    order = ap (λ (t : List Request). t ++ more) b.order ∙ append_assoc b.done (b.request ∷ b.left) more;
    answered = b.answered;
    made = b.made;
    cut = b.cut;
    written_is = b.written_is;
  }

  -- the answers to a part break off
  pub part_broken : (start now : ChannelState) (owed left more : OwedState) (hello here : Option Version) (old mid new : S) (all rest part later : List Request) → rest ≡ part ++ later
      → ((w : List ℕ) × TakesThenFails (sink_of left) (sink_of more) w × BreaksOff Answers here mid part w new)
      → AnsweredSoFar start now owed left hello here old mid all rest
      → (whole : OwedState) × IsSent start now whole more × ((written : List ℕ) × TakesThenFails (sink_of owed) (sink_of whole) written × BreaksOff Answers hello old all written new)
  part_broken start now owed left more hello here old mid new all rest part later parts (w, takes, broke) s =
      let whole : OwedState = record { rest = s.whole.rest ++ w; failures = s.whole.failures + 1 } in
      let grown = takes_then (sink_of owed) (sink_of s.whole) (sink_of (record { rest = s.whole.rest ++ w; failures = s.whole.failures })) s.written w s.takes (refl, refl) in (
        whole,
        (subst (λ (t : List ℕ). TakesOwed start now (s.whole.rest ++ w) t) (sym takes.0) (sent_before start now s.whole.rest left.rest w s.sent.0), takes.1 ∙ ap (λ (n : ℕ). n + 1) s.sent.1),
        (
          s.written ++ w,
          (grown.0, ap (λ (n : ℕ). n + 1) s.takes.1),
          subst (λ (t : List Request). BreaksOff Answers hello old t (s.written ++ w) new) (sym (s.order ∙ ap (λ (t : List Request). s.done ++ t) parts))
              (breaks_then Answers hello old mid new s.done (part ++ later) s.written w s.answered
              (subst (λ (h : Option Version). BreaksOff Answers h mid (part ++ later) w new) s.behind (breaks_before here mid new part later w broke))),
        ),
      )

  -- no request is left
  pub all_answered : (start now : ChannelState) (owed left : OwedState) (hello here : Option Version) (old new : S) (all rest : List Request) → rest ≡ [] → AnsweredSoFar start now owed left hello here old new all rest
      → (whole : OwedState) × IsSent start now whole left × ((written : List ℕ) × TakesBytes (sink_of owed) (sink_of whole) written × Answered Answers hello old all written new)
  all_answered start now owed left hello here old new all rest none s = (
    s.whole,
    s.sent,
    (
      s.written,
      s.takes,
      subst (λ (t : List Request). Answered Answers hello old t s.written new) (sym (s.order ∙ ap (λ (t : List Request). s.done ++ t) none ∙ append-nil s.done)) s.answered,
    ),
  )
