-- What a session adds to what its pass made, and what two joined passes then have seen.
use Rattle.std.proofs.Common.{◌≡◌, ◌≢◌, ◌⊎◌, ◌==◌, if◌then◌else◌, inl, inr, ℕ, zero, suc, ◌<◌, List, [], ◌∷◌, ◌++◌, Bool, true, false, Option, refl, sym, ap, subst, ◌∙◌, append-nil, append_assoc, eq-eqb, ne_eqb}
use Rattle.std.proofs.lemmas.Bool.{cases_eq}
use Rattle.stripe_rule.specs.declared.view.Event.{Event}
use Rattle.stripe_rule.specs.History.{made_by}
use Rattle.stripe_rule.specs.Gains.{own_event, mine_of, IsJoined}
use Rattle.atomic_methods.specs.Hashes.{stripe_of}
use Rattle.atomic_methods.specs.Invocations.{Invocation}
use Rattle.atomic_methods.specs.declared.reply.Reply.{Reply}
use Rattle.bin_stripes.specs.Actions.{called}
use Rattle.bin_stripes.specs.declared.ghost_action.GhostAction.{GhostAction}
use Rattle.bin_stripes.specs.Invoked.{Calls, RefusesCall}
use Rattle.bin_stripes.specs.Histories.{Sound}
use Rattle.bin_stripes.specs.Passes.{PassState, stripes_of}
use Rattle.client_protocol.specs.declared.limits.Version.{Version}
use Rattle.client_protocol.specs.Requests.{Request}
use Rattle.client_protocol.specs.declared.response.Response.{Response}
use Rattle.client_protocol.specs.declared.response.Response.TheVariants as tell
use Rattle.sessions.specs.Asking.{Asked, asked, greeting, registration, call, walk, replacement, count, unknown, response_to, AnswersOnce}
use Rattle.crews.specs.Shared.{AnsweredCall, made_call, call_asked, call_of_step, SessionOf, calls_of, events_at, SeesBothSessions}
use Rattle.crews.specs.declared.crew.Crew.{Crew}
use Rattle.crews.specs.Crews.{station}
use Rattle.crews.specs.Collected.{in_session}
use Rattle.crews.specs.Stations.{no_tokens, Station}
use Rattle.crews.specs.Together.{SessionsOfCrew, calls_in, made_with_all, SeesAllSessions}
use Rattle.crews.specs.Steps.{HearsEach, TeamWalks, keeping, CrewMeets, CrewServes}
use Rattle.crews.proofs.ChainLemmas.{session_leads}

events_append : (pass : PassState) (k : ℕ) (xs ys : List AnsweredCall) → events_at pass k (xs ++ ys) ≡ events_at pass k xs ++ events_at pass k ys
events_append pass k [] ys = refl
events_append pass k (x ∷ xs) ys =
    let more = events_append pass k xs ys in
    ap (λ es. (if stripe_of (stripes_of pass.map) x.invocation.key == k then own_event pass.view (record { action = called x.invocation x.reply }) ∷ [] else []) ++ es) more
    ∙ sym (append_assoc (if stripe_of (stripes_of pass.map) x.invocation.key == k then own_event pass.view (record { action = called x.invocation x.reply }) ∷ [] else []) (events_at pass k xs) (events_at pass k ys))

-- events name of their pass the stripes of its map and its least number alone
events_same : (p q : PassState) (k : ℕ) (calls : List AnsweredCall) → q.map ≡ p.map → q.view.numbers ≡ p.view.numbers → events_at q k calls ≡ events_at p k calls
events_same p q k [] map numbers = refl
events_same p q k (c ∷ calls) map numbers =
    let more = events_same p q k calls map numbers in
    let stripes : stripes_of q.map ≡ stripes_of p.map = ap stripes_of map in
    let event : own_event q.view (record { action = called c.invocation c.reply }) ≡ own_event p.view (record { action = called c.invocation c.reply }) = cc in
    cc

-- a pass that made the events of these calls
record Adds (old : PassState) (calls : List AnsweredCall) (new : PassState) : Type 0 where
  map : new.map ≡ old.map
  numbers : new.view.numbers ≡ old.view.numbers
  mine : (k : ℕ) → k < stripes_of old.map → mine_of new.view k ≡ mine_of old.view k ++ events_at old k calls

adds_none : (p : PassState) → Adds p [] p
adds_none p = record { map = refl; numbers = refl; mine = λ k lt. sym (append-nil (mine_of p.view k)) }

adds_on : (a b c : PassState) (xs ys : List AnsweredCall) → Adds a xs b → Adds b ys c → Adds a (xs ++ ys) c
adds_on a b c xs ys one more = record {
  map = more.map ∙ one.map;
  numbers = more.numbers ∙ one.numbers;
  mine = λ k lt.
      let here = one.mine k lt in
      let there : mine_of c.view k ≡ mine_of b.view k ++ events_at b k ys = more.mine k (subst (λ (n : ℕ). k < n) (sym (ap stripes_of one.map)) lt) in
      let same = events_same a b k ys one.map one.numbers in
      there ∙ ap (λ es. mine_of b.view k ++ es) same ∙ ap (λ es. es ++ events_at a k ys) here
      ∙ append_assoc (mine_of a.view k) (events_at a k xs) (events_at a k ys)
      ∙ ap (λ es. mine_of a.view k ++ es) (sym (events_append a k xs ys));
}

-- a session that answered these calls led from one state to the other
abbrev Leads : Station → List AnsweredCall → Station → Type 0
Leads old calls new = Adds old.pass calls new.pass

stays : (s : Station) → Leads s [] s
stays s = adds_none s.pass

goes_on : (a b c : Station) (xs ys : List AnsweredCall) → Leads a xs b → Leads b ys c → Leads a (xs ++ ys) c
goes_on a b c xs ys one more = adds_on a.pass b.pass c.pass xs ys one more

once : (old new : Station) (response : Response) (responses : List Response) → AnswersOnce old response responses new → Leads old [] new
once old new response responses (is, same) = subst (λ (s : Station). Leads old [] s) (sym same) (stays old)

-- a pass that hears of others makes nothing
record KeepsMine (old new : PassState) : Type 0 where
  map : new.map ≡ old.map
  numbers : new.view.numbers ≡ old.view.numbers
  mine : (k : ℕ) → k < stripes_of old.map → mine_of new.view k ≡ mine_of old.view k

heard : (old : PassState) (passes : List PassState) (new : PassState) → HearsEach old passes new → KeepsMine old new
heard old [] new is = subst (λ (p : PassState). KeepsMine old p) (sym is) (record { map = refl; numbers = refl; mine = λ k lt. refl })
heard old (pass ∷ passes) new (next, told, rest) =
    let later = heard next passes new rest in
    record {
      map = later.map ∙ told.same.map;
      numbers = later.numbers ∙ told.hears.numbers;
      mine = λ k lt.
          later.mine k (subst (λ (n : ℕ). k < n) (sym (ap stripes_of told.same.map)) lt)
          ∙ (told.hears.gains k lt).mine ∙ append-nil (mine_of old.view k);
    }

team_walks : (old new : Station) (Walks : List PassState → List PassState → Type 0) → TeamWalks old Walks new → Leads old [] new
team_walks old new Walks walks =
    let kept = heard old.pass new.team new.pass walks.hears in
    record { map = kept.map; numbers = kept.numbers; mine = λ k lt. kept.mine k lt ∙ sym (append-nil (mine_of old.pass.view k)) }

-- where the condition holds, or not
chosen : (b : Bool) (es : List (Event GhostAction)) → b ≡ true → (if b then es else []) ++ [] ≡ es
chosen b es is = rw is (append-nil es)

not_chosen : (b : Bool) (es : List (Event GhostAction)) → b ≡ false → (if b then es else []) ++ [] ≡ []
not_chosen b es is = rw is refl

-- a call that was made has its event on the stripe of its key, and on no other
at_key : (old : PassState) (new : PassState) (invocation : Invocation) (reply : Reply) (k : ℕ) → Calls old invocation reply new
    → (stripe_of (stripes_of old.map) invocation.key ≡ k) ⊎ (stripe_of (stripes_of old.map) invocation.key ≢ k)
    → mine_of new.view k ≡ mine_of old.view k ++ events_at old k (record { invocation = invocation; reply = reply } ∷ [])
at_key old new invocation reply k calls (inl here) =
    let j = stripe_of (stripes_of old.map) invocation.key in
    let one = own_event old.view (record { action = called invocation reply }) ∷ [] in
    subst (λ (i : ℕ). mine_of new.view i ≡ mine_of old.view i ++ events_at old i (record { invocation = invocation; reply = reply } ∷ [])) here
    (calls.here.mine ∙ ap (λ es. mine_of old.view j ++ es) (sym (chosen (j == j) one (eq-eqb j j refl))))
at_key old new invocation reply k calls (inr other) =
    let j = stripe_of (stripes_of old.map) invocation.key in
    let one = own_event old.view (record { action = called invocation reply }) ∷ [] in
    (calls.elsewhere k (λ e. other (sym e))).mine ∙ sym (append-nil (mine_of old.view k))
    ∙ ap (λ es. mine_of old.view k ++ es) (sym (not_chosen (j == k) one (ne_eqb j k other)))

nowhere : (old : PassState) (new : PassState) (invocation : Invocation) (k : ℕ) → RefusesCall old invocation new
    → (stripe_of (stripes_of old.map) invocation.key ≡ k) ⊎ (stripe_of (stripes_of old.map) invocation.key ≢ k)
    → mine_of new.view k ≡ mine_of old.view k ++ []
nowhere old new invocation k refuses (inl here) = subst (λ (j : ℕ). mine_of new.view j ≡ mine_of old.view j ++ []) here refuses.nothing.here.mine
nowhere old new invocation k refuses (inr other) = (refuses.nothing.elsewhere k (λ e. other (sym e))).mine ∙ sym (append-nil (mine_of old.view k))

made : (old new : Station) (responses : List Response) (invocation : Invocation) → new.pass.map ≡ old.pass.map
    → (m : (((reply : Reply) × Calls old.pass invocation reply new.pass × (responses ≡ response_to reply ∷ []))
    ⊎ (RefusesCall old.pass invocation new.pass × (responses ≡ tell.Refused 9 0 ∷ [])))) → Leads old (made_call old.pass new.pass responses invocation m) new
made old new responses invocation map (inl (reply, calls, is)) = record {
  map = map;
  numbers = calls.numbers;
  mine = λ k lt. at_key old.pass new.pass invocation reply k calls (cases_eq (stripe_of (stripes_of old.pass.map) invocation.key) k);
}
made old new responses invocation map (inr (refuses, is)) = record {
  map = map;
  numbers = refuses.nothing.numbers;
  mine = λ k lt. nowhere old.pass new.pass invocation k refuses (cases_eq (stripe_of (stripes_of old.pass.map) invocation.key) k);
}

asked_leads : (hello : Option Version) (old : Station) (responses : List Response) (new : Station) (asks : Asked) (m : CrewMeets hello old asks responses new) → Leads old (call_asked hello old new responses asks m) new
asked_leads hello old responses new (greeting version) m = once old new _ responses m
asked_leads hello old responses new (registration sizes bytes) (inl (token, admits, is, same)) = subst (λ (s : Station). Leads old [] s) (sym same) (record { map = refl; numbers = refl; mine = λ k lt. sym (append-nil (mine_of old.pass.view k)) })
asked_leads hello old responses new (registration sizes bytes) (inr (inl (token, admits, held, m))) = once old new _ responses m
asked_leads hello old responses new (registration sizes bytes) (inr (inr (inl (response, refuses, m)))) = once old new response responses m
asked_leads hello old responses new (registration sizes bytes) (inr (inr (inr m))) = once old new _ responses m
asked_leads hello old responses new (call invocation) m = made old new responses invocation m.same.map m.made
asked_leads hello old responses new (walk kind program arg) (inl (reply, walks, is)) = team_walks old new _ walks
asked_leads hello old responses new (walk kind program arg) (inr (walks, is)) = team_walks old new _ walks
asked_leads hello old responses new (replacement program arg) (inl (reply, walks, is)) = team_walks old new _ walks
asked_leads hello old responses new (replacement program arg) (inr (walks, is)) = team_walks old new _ walks
asked_leads hello old responses new count (inl (reply, walks, is)) = team_walks old new _ walks
asked_leads hello old responses new count (inr (walks, is)) = team_walks old new _ walks
asked_leads hello old responses new unknown m = once old new _ responses m

serves_leads : (hello : Option Version) (old : Station) (request : Request) (responses : List Response) (new : Station) (one : CrewServes hello old request responses new) → Leads old (call_of_step hello old request responses new one) new
serves_leads hello old request responses new (inl answers) =
    let leads = asked_leads hello (keeping old answers.kept) responses new (asked (λ _. answers.found) request) answers.meets in
    record { map = leads.map; numbers = leads.numbers; mine = leads.mine }
serves_leads hello old request responses new (inr (names, refused)) = once old new _ responses refused

-- what a session's pass has made after it
session_made : (old : Station) (pass : PassState) (s : SessionOf old pass) → Leads old (calls_of old pass s) s.new
session_made old pass s = session_leads CrewServes call_of_step Leads stays goes_on serves_leads old s.new s.read s.written s.last s.end s.ended

pub sees_both : (one other joined : PassState) → joined.map ≡ one.map → other.map ≡ one.map → IsJoined (stripes_of one.map) one.view other.view joined.view → Sound (stripes_of joined.map) joined.view
    → SeesBothSessions one other joined
sees_both one other joined map other_map is sound first second session later k q lt carried =
    let mine_one : mine_of one.view k ≡ mine_of first.pass.view k ++ events_at first.pass k (calls_of first one session) = mine_after one first session lt_one in
    let mine_other : mine_of other.view k ≡ mine_of second.pass.view k ++ events_at second.pass k (calls_of second other later) = mine_after other second later lt_other in
    sound.own k q carried ∙ ap (made_by q) (is.mine k lt_one ∙ ap (λ es. es ++ mine_of other.view k) mine_one ∙ ap (λ es. (mine_of first.pass.view k ++ events_at first.pass k (calls_of first one session)) ++ es) mine_other) where
      lt_one : k < stripes_of one.map
      lt_one = subst (λ (n : ℕ). k < n) (ap stripes_of map) lt

      lt_other : k < stripes_of other.map
      lt_other = subst (λ (n : ℕ). k < n) (sym (ap stripes_of other_map)) lt_one

      mine_after : (pass : PassState) (old : Station) (s : SessionOf old pass) → k < stripes_of pass.map → mine_of pass.view k ≡ mine_of old.pass.view k ++ events_at old.pass k (calls_of old pass s)
      mine_after pass old s below =
          let leads = session_made old pass s in
          let low : k < stripes_of old.pass.map = subst (λ (n : ℕ). k < n) (ap stripes_of (ap (λ (p : PassState). p.map) s.pass_is ∙ leads.map)) below in
          ap (λ (p : PassState). mine_of p.view k) s.pass_is ∙ leads.mine k low

-- ---- sessions one after the other

-- what a crew's pass has made after them
all_made : (n : ℕ) (old new : Crew) (s : SessionsOfCrew n old new) → Adds old.pass (calls_in n old new s) new.pass
all_made zero old new same = subst (λ (c : Crew). Adds old.pass [] c.pass) (sym same) (adds_none old.pass)
all_made (suc n) old new (mid, before, one) =
    let begin = station mid (no_tokens one.registry) in
    let end = station new one.tokens in
    adds_on old.pass mid.pass new.pass (calls_in n old mid before) (in_session CrewServes call_of_step begin end one.read one.written one.last one.end one.ended)
    (all_made n old mid before) (session_leads CrewServes call_of_step Leads stays goes_on serves_leads begin end one.read one.written one.last one.end one.ended)

pub sees_all : (one other joined : PassState) → joined.map ≡ one.map → other.map ≡ one.map → IsJoined (stripes_of one.map) one.view other.view joined.view → Sound (stripes_of joined.map) joined.view
    → SeesAllSessions one other joined
sees_all one other joined map other_map is sound n m first served second also sessions later k q one_is other_is lt carried =
    let mine_one : mine_of one.view k ≡ made_with_all n first served sessions k = mine_after one n first served sessions one_is lt_one in
    let mine_other : mine_of other.view k ≡ made_with_all m second also later k = mine_after other m second also later other_is lt_other in
    sound.own k q carried ∙ ap (made_by q) (is.mine k lt_one ∙ ap (λ es. es ++ mine_of other.view k) mine_one ∙ ap (λ es. made_with_all n first served sessions k ++ es) mine_other) where
      lt_one : k < stripes_of one.map
      lt_one = subst (λ (n : ℕ). k < n) (ap stripes_of map) lt

      lt_other : k < stripes_of other.map
      lt_other = subst (λ (n : ℕ). k < n) (sym (ap stripes_of other_map)) lt_one

      mine_after : (pass : PassState) (n : ℕ) (old new : Crew) (s : SessionsOfCrew n old new) → pass ≡ new.pass → k < stripes_of pass.map → mine_of pass.view k ≡ made_with_all n old new s k
      mine_after pass n old new s pass_is below =
          let leads = all_made n old new s in
          let low : k < stripes_of old.pass.map = subst (λ (n : ℕ). k < n) (ap stripes_of (ap (λ (p : PassState). p.map) pass_is ∙ leads.map)) below in
          ap (λ (p : PassState). mine_of p.view k) pass_is ∙ leads.mine k low
