-- What two crews' sessions have in common, once their passes are joined.
use Rattle.std.specs.Prelude.{◌≡◌, ◌⊎◌, ◌==◌, if◌then◌else◌, ℕ, ◌<◌, List, [], ◌∷◌, ◌++◌, Option}
use Rattle.std.proofs.Common.{inl, inr}
use Rattle.stripe_rule.specs.declared.view.Event.{Event}
use Rattle.stripe_rule.specs.History.{made_by}
use Rattle.stripe_rule.specs.Gains.{Carries, own_event, seen_of, mine_of}
use Rattle.atomic_methods.specs.Hashes.{stripe_of}
use Rattle.atomic_methods.specs.Invocations.{Invocation}
use Rattle.atomic_methods.specs.declared.reply.Reply.{Reply}
use Rattle.bin_stripes.specs.Actions.{called}
use Rattle.bin_stripes.specs.declared.ghost_action.GhostAction.{GhostAction}
use Rattle.bin_stripes.specs.Invoked.{Calls, RefusesCall}
use Rattle.bin_stripes.specs.Passes.{PassState, stripes_of}
use Rattle.client_protocol.specs.declared.limits.Version.{Version}
use Rattle.client_protocol.specs.Requests.{Request}
use Rattle.client_protocol.specs.declared.response.Response.{Response}
use Rattle.client_protocol.specs.declared.response.Response.TheVariants as tell
use Rattle.sessions.specs.Asking.{Asked, asked, greeting, registration, call, walk, replacement, count, unknown, response_to}
use Rattle.sessions.specs.Sessions.{Ended}
use Rattle.sessions.specs.declared.session.SessionEnd.{SessionEnd}
use Rattle.crews.specs.Collected.{in_session}
use Rattle.crews.specs.Stations.{Station}
use Rattle.crews.specs.Steps.{keeping, CrewMeets, CrewServes}

-- a call, and the reply with which it was answered
pub record AnsweredCall : Type 0 where
  pub invocation : Invocation
  pub reply : Reply

-- the call that was made, if memory was not refused to it
abbrev pub made_call : (old new : PassState) (responses : List Response) (invocation : Invocation)
    → (((reply : Reply) × Calls old invocation reply new × (responses ≡ response_to reply ∷ []))
    ⊎ (RefusesCall old invocation new × (responses ≡ tell.Refused 9 0 ∷ []))) → List AnsweredCall
made_call old new responses invocation (inl (reply, calls, is)) = record { invocation = invocation; reply = reply } ∷ []
made_call old new responses invocation (inr refused) = []

abbrev pub call_asked : (hello : Option Version) (old new : Station) (responses : List Response) (asks : Asked) → CrewMeets hello old asks responses new → List AnsweredCall
call_asked hello old new responses (greeting version) meets = []
call_asked hello old new responses (registration sizes bytes) meets = []
call_asked hello old new responses (call invocation) meets = made_call old.pass new.pass responses invocation meets.made
call_asked hello old new responses (walk kind program arg) meets = []
call_asked hello old new responses (replacement program arg) meets = []
call_asked hello old new responses count meets = []
call_asked hello old new responses unknown meets = []

-- the call that a request was answered by, if it was a call and was made
abbrev pub call_of_step : (hello : Option Version) (old : Station) (request : Request) (responses : List Response) (new : Station) → CrewServes hello old request responses new → List AnsweredCall
call_of_step hello old request responses new (inl answers) =
    call_asked hello (keeping old answers.kept) new responses (asked (λ _. answers.found) request) answers.meets
call_of_step hello old request responses new (inr refused) = []

-- a session that led from a state to what this pass knows
pub record SessionOf (old : Station) (pass : PassState) : Type 0 where
  pub end : SessionEnd
  pub read : List ℕ
  pub last : ℕ
  pub written : List ℕ
  pub new : Station
  pub ended : Ended CrewServes old end read last written new
  pub pass_is : pass ≡ new.pass

-- the calls that it answered, in order
abbrev pub calls_of : (old : Station) (pass : PassState) → SessionOf old pass → List AnsweredCall
calls_of old pass session = in_session CrewServes call_of_step old session.new session.read session.written session.last session.end session.ended

-- the events of those calls whose keys lie in the stripe k, under the least number of the pass
abbrev pub events_at : PassState → ℕ → List AnsweredCall → List (Event GhostAction)
events_at pass k [] = []
events_at pass k (answered ∷ later) =
    (if stripe_of (stripes_of pass.map) answered.invocation.key == k
    then own_event pass.view (record { action = called answered.invocation answered.reply }) ∷ [] else [])
    ++ events_at pass k later

-- what a pass had made on the stripe k before its session, and then the calls that the session answered
abbrev pub made_with : (old : Station) (pass : PassState) → SessionOf old pass → ℕ → List (Event GhostAction)
made_with old pass session k = mine_of old.pass.view k ++ events_at old.pass k (calls_of old pass session)

-- of each stripe the joined pass has seen, under each number that it carries, just what the two passes had made before their
-- sessions, and each call that the sessions answered, once and in order
abbrev pub SeesBothSessions : PassState → PassState → PassState → Type 0
SeesBothSessions one other joined =
    (first second : Station) (session : SessionOf first one) (later : SessionOf second other) (k q : ℕ)
    → k < stripes_of joined.map → Carries joined.view q
    → made_by q (seen_of joined.view k) ≡ made_by q (made_with first one session k ++ made_with second other later k)
