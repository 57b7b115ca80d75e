-- The numbers that a crew's passes carry stay as they are, and the registry of the session's tokens does.
use Rattle.std.proofs.Common.{◌≡◌, ◌⊎◌, None, Some, MatchOption, ℕ, zero, suc, ◌<◌, List, [], ◌∷◌, length, slice_index_or, Option, inl, inr, refl, sym, ap, subst, ◌∙◌, arith}
use Rattle.stripe_rule.specs.declared.view.View.{View}
use Rattle.verifier.specs.Checked.{Checked}
use Rattle.atomic_methods.specs.Invocations.{Invocation}
use Rattle.atomic_methods.specs.declared.reply.Reply.{Reply}
use Rattle.bin_stripes.specs.Invoked.{Calls, RefusesCall}
use Rattle.bin_stripes.specs.declared.ghost_action.GhostAction.{GhostAction}
use Rattle.bin_stripes.specs.Passes.{PassState}
use Rattle.bulk_walks.specs.Walks.{AllWalked, Events}
use Rattle.client_protocol.specs.declared.limits.Version.{Version}
use Rattle.client_protocol.specs.Requests.{Request}
use Rattle.client_protocol.specs.declared.response.Response.{Response}
use Rattle.client_protocol.specs.declared.response.Response.TheVariants as tell
use Rattle.sessions.specs.Asking.{Asked, asked, greeting, registration, call, walk, replacement, count, unknown, response_to, AnswersOnce}
use Rattle.sessions.specs.declared.session.SessionEnd.{SessionEnd}
use Rattle.client_protocol.specs.Frames.{Held, held_hello}
use Rattle.sessions.specs.Answering.{hello_behind, AnswersInOrder}
use Rattle.sessions.specs.Conversations.{AnswersPiece, BreaksPiece}
use Rattle.sessions.specs.Sessions.{Ended}
use Rattle.crews.specs.Crews.{team_numbers}
use Rattle.crews.specs.Stations.{KeptTokens, Station}
use Rattle.crews.specs.Steps.{IsToldBy, Pairwise, HearsEach, TeamWalks, Finds, keeping, number_in, CrewMeets, CrewServes}
use Rattle.crews.proofs.ChainLemmas.{order, session_leads}

no_numbers : List ℕ
no_numbers = []

pub record SameNumbers (old new : Station) : Type 0 where
  pub map : new.pass.map ≡ old.pass.map
  pub pass : new.pass.view.numbers ≡ old.pass.view.numbers
  pub team : team_numbers new.team ≡ team_numbers old.team
  pub registry : new.tokens.registry ≡ old.tokens.registry
  pub strict : new.is_strict ≡ old.is_strict

stays : (s : Station) → SameNumbers s s
stays s = record { map = refl; pass = refl; team = refl; registry = refl; strict = refl }

goes_on : (a b c : Station) → SameNumbers a b → SameNumbers b c → SameNumbers a c
goes_on a b c one more = record { map = more.map ∙ one.map; pass = more.pass ∙ one.pass; team = more.team ∙ one.team; registry = more.registry ∙ one.registry; strict = more.strict ∙ one.strict }

told_numbers : (from : PassState) (olds news : List PassState) → Pairwise (IsToldBy from) olds news → team_numbers news ≡ team_numbers olds
told_numbers from [] [] told = refl
told_numbers from [] (new ∷ news) told = absurd told
told_numbers from (old ∷ olds) [] told = absurd told
told_numbers from (old ∷ olds) (new ∷ news) (one, more) =
    let first = one.hears.numbers in
    let rest = told_numbers from olds news more in
    cc

heard_numbers : (old : PassState) (passes : List PassState) (new : PassState) → HearsEach old passes new → new.view.numbers ≡ old.view.numbers
heard_numbers old [] new is = ap (λ (p : PassState). p.view.numbers) is
heard_numbers old (pass ∷ passes) new (next, told, rest) = heard_numbers next passes new rest ∙ told.hears.numbers

heard_map : (old : PassState) (passes : List PassState) (new : PassState) → HearsEach old passes new → new.map ≡ old.map
heard_map old [] new is = ap (λ (p : PassState). p.map) is
heard_map old (pass ∷ passes) new (next, told, rest) = heard_map next passes new rest ∙ told.same.map

by_place : (before after : List PassState) → length after ≡ length before
    → ((j : ℕ) (d : PassState) → j < length before → (slice_index_or after j d).view.numbers ≡ (slice_index_or before j d).view.numbers)
    → team_numbers after ≡ team_numbers before
by_place [] [] long each = refl
by_place [] (a ∷ after) long each = absurd cc
by_place (b ∷ before) [] long each = absurd cc
by_place (b ∷ before) (a ∷ after) long each =
    let first : a.view.numbers ≡ b.view.numbers = each zero b (omega arith) in
    let rest = by_place before after (omega (arith, long)) (λ j d lt. each (suc j) d (omega (arith, lt))) in
    cc

walked_numbers : (n : ℕ) (Made : ℕ → View GhostAction → Events → Events → Type 0) (before after : List PassState) → AllWalked n Made before after
    → team_numbers after ≡ team_numbers before
walked_numbers n Made before after walked = by_place before after walked.order (λ j d lt. (walked.each j d lt).numbers)

-- a team that keeps its numbers while it walks
team_walks : (old new : Station) (Walks : List PassState → List PassState → Type 0)
    → ((before after : List PassState) → Walks before after → team_numbers after ≡ team_numbers before) → TeamWalks old Walks new → SameNumbers old new
team_walks old new Walks keeps walks = record {
  map = heard_map old.pass new.team new.pass walks.hears;
  pass = heard_numbers old.pass new.team new.pass walks.hears;
  team = keeps walks.told new.team walks.walks ∙ told_numbers old.pass old.team walks.told walks.tells;
  registry = ap (λ (t : KeptTokens). t.registry) walks.tokens;
  strict = walks.strict;
}

once : (old new : Station) (response : Response) (responses : List Response) → AnswersOnce old response responses new → SameNumbers old new
once old new response responses (is, same) = subst (λ (s : Station). SameNumbers old s) (sym same) (stays old)

called_numbers : (old new : Station) (responses : List Response) (invocation : Invocation)
    → (((reply : Reply) × Calls old.pass invocation reply new.pass × (responses ≡ response_to reply ∷ []))
    ⊎ (RefusesCall old.pass invocation new.pass × (responses ≡ tell.Refused 9 0 ∷ []))) → new.pass.view.numbers ≡ old.pass.view.numbers
called_numbers old new responses invocation (inl (reply, calls, is)) = calls.numbers
called_numbers old new responses invocation (inr (refuses, is)) = refuses.nothing.numbers

meets : (hello : Option Version) (old : Station) (asks : Asked) (responses : List Response) (new : Station) → CrewMeets hello old asks responses new → SameNumbers old new
meets hello old (greeting version) responses new m = once old new _ responses m
meets hello old (registration sizes bytes) responses new (inl (token, admits, is, same)) = subst (λ (s : Station). SameNumbers old s) (sym same) (record { map = refl; pass = refl; team = refl; registry = refl; strict = refl })
meets hello old (registration sizes bytes) responses new (inr (inl (token, admits, held, m))) = once old new _ responses m
meets hello old (registration sizes bytes) responses new (inr (inr (inl (response, refuses, m)))) = once old new response responses m
meets hello old (registration sizes bytes) responses new (inr (inr (inr m))) = once old new _ responses m
meets hello old (call invocation) responses new m = record { map = m.same.map; pass = called_numbers old new responses invocation m.made; team = ap team_numbers m.team; registry = ap (λ (t : KeptTokens). t.registry) m.tokens; strict = m.strict }
meets hello old (walk kind program arg) responses new (inl (reply, walks, is)) = team_walks old new _ (λ before after walked. walked_numbers _ _ before after walked.walked) walks
meets hello old (walk kind program arg) responses new (inr (walks, is)) = team_walks old new _ (λ before after walked. walked_numbers _ _ before after walked) walks
meets hello old (replacement program arg) responses new (inl (reply, walks, is)) = team_walks old new _ (λ before after walked. walked_numbers _ _ before after walked.walked) walks
meets hello old (replacement program arg) responses new (inr (walks, is)) = team_walks old new _ (λ before after walked. ap team_numbers walked) walks
meets hello old count responses new (inl (reply, walks, is)) = team_walks old new _ (λ before after walked. walked_numbers _ _ before after walked.walked) walks
meets hello old count responses new (inr (walks, is)) = team_walks old new _ (λ before after walked. walked_numbers _ _ before after walked) walks
meets hello old unknown responses new m = once old new _ responses m

-- nor does the registry change when a program is found
named_registry : (number : Option ℕ) (old kept : KeptTokens) (found : Option Checked) → MatchOption number (kept ≡ old) (λ n. Finds old n found kept) → kept.registry ≡ old.registry
named_registry None old kept found same = ap (λ (t : KeptTokens). t.registry) same
named_registry (Some number) old kept found finds = elim finds.grown [
  | inl same ↦ ap (λ (t : KeptTokens). t.registry) same
  | inr (token, has, is) ↦ ap (λ (t : KeptTokens). t.registry) is
]

step : (hello : Option Version) (old : Station) (request : Request) (responses : List Response) (new : Station) → CrewServes hello old request responses new → SameNumbers old new
step hello old request responses new (inl answers) =
    let same = meets hello (keeping old answers.kept) (asked (λ _. answers.found) request) responses new answers.meets in
    record { map = same.map; pass = same.pass; team = same.team; registry = same.registry ∙ named_registry (number_in request) old.tokens answers.kept answers.found answers.finds; strict = same.strict }
step hello old request responses new (inr (names, refused)) = once old new _ responses refused

-- a session's passes carry the numbers that they carried
pub ended_same : (old : Station) (end : SessionEnd) (read : List ℕ) (last : ℕ) (written : List ℕ) (new : Station) → Ended CrewServes old end read last written new → SameNumbers old new
ended_same old end read last written new ended =
    session_leads CrewServes (λ _ _ _ _ _ _. no_numbers) (λ a _ b. SameNumbers a b) stays (λ a b c _ _ one more. goes_on a b c one more) step old new read written last end ended

pub station_same : (a b : Station) → a.pass ≡ b.pass → a.team ≡ b.team → a.tokens ≡ b.tokens → a.is_strict ≡ b.is_strict → a ≡ b
station_same a b pass team tokens strict = λ i. record { pass = pass i; team = team i; tokens = tokens i; is_strict = strict i }

-- the same session, of states that are these
pub ended_as : (old before : Station) (end : SessionEnd) (read : List ℕ) (last : ℕ) (written : List ℕ) (new after : Station) → old ≡ before → after ≡ new
    → Ended CrewServes old end read last written new → Ended CrewServes before end read last written after
ended_as old before end read last written new after begins ends ended =
    subst (λ (x : Station × Station). Ended CrewServes x.0 end read last written x.1) (λ i. (begins i, sym ends i)) ended

in_order_same : (hello : Option Version) (old new : Station) (responses : List Response) (requests : List Request) → AnswersInOrder CrewServes hello old requests responses new → SameNumbers old new
in_order_same hello old new responses requests chain =
    order CrewServes (λ _ _ _ _ _ _. no_numbers) (λ a _ b. SameNumbers a b) stays (λ a b c _ _ one more. goes_on a b c one more) step hello old new responses requests chain

-- nor do they change in an exchange
pub piece_same : (held next : Held) (old new : Station) (piece written : List ℕ) → AnswersPiece CrewServes held old piece written next new → SameNumbers old new
piece_same held next old new piece written (requests, feeds, (responses, chain, is)) = in_order_same (held_hello held) old new responses requests chain

pub broken_same : (held next : Held) (old new : Station) (piece written : List ℕ) → BreaksPiece CrewServes held old piece written next new → SameNumbers old new
broken_same held next old new piece written (requests, feeds, b) =
    goes_on old b.mid new (in_order_same (held_hello held) old b.mid b.answered.0 b.done b.answered.1)
    (step (hello_behind (held_hello held) b.done) b.mid b.request b.responses new b.made)
