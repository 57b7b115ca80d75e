-- What whole crews make as they answer requests, calls by their passes and walks by their teams, and what two crews have in common.
use Rattle.std.specs.Prelude.{◌≡◌, ◌⊎◌, ◌==◌, if◌then◌else◌, ℕ, zero, suc, ◌<◌, ◌≤◌, ◌%◌, Bool, true, false, List, [], ◌∷◌, ◌++◌, All, map, flat_map, length, Option}
use Rattle.std.proofs.Common.{inl, inr, refl}
use Rattle.std.proofs.lemmas.Bool.{cases_lt}
use Rattle.stripe_rule.specs.declared.view.Event.{Event}
use Rattle.stripe_rule.specs.declared.view.View.{View}
use Rattle.stripe_rule.specs.History.{made_by, StartsWith}
use Rattle.stripe_rule.specs.Gains.{Carries, seen_of, mine_of}
use Rattle.atomic_methods.specs.Invocations.{Invocation}
use Rattle.atomic_methods.specs.declared.reply.Reply.{Reply}
use Rattle.bin_stripes.specs.Actions.{called}
use Rattle.bin_stripes.specs.declared.ghost_action.GhostAction.{GhostAction}
use Rattle.bin_stripes.specs.Histories.{own_events}
use Rattle.bin_stripes.specs.Invoked.{Calls, RefusesCall, stripe_for}
use Rattle.bin_stripes.specs.Passes.{PassState, stripes_of}
use Rattle.bulk_walks.specs.Walks.{Events, AllWalked}
use Rattle.client_protocol.specs.declared.limits.Version.{Version}
use Rattle.client_protocol.specs.Requests.{Request}
use Rattle.client_protocol.specs.declared.response.Response.{Response}
use Rattle.client_protocol.specs.declared.response.Response.TheVariants as tell
use Rattle.sessions.specs.Asking.{Asked, asked, greeting, registration, call, walk, replacement, count, unknown, response_to}
use Rattle.crews.specs.declared.crew.Crew.{Crew}
use Rattle.crews.specs.Collected.{in_session}
use Rattle.crews.specs.Crews.{station}
use Rattle.crews.specs.Lives.{Known, known_of}
use Rattle.crews.specs.Stations.{Station, no_tokens}
use Rattle.crews.specs.Steps.{keeping, CrewMeets, CrewServes}
use Rattle.crews.specs.Together.{SessionsOfCrew}

-- ---- what a crew makes

-- an event that a crew made: in a walk, by a pass of its team; else by its own pass
pub record CrewEvent : Type 0 where
  pub is_of_walk : Bool
  pub event : Event GhostAction

abbrev pub own : Events → List CrewEvent
own events = map (λ event. record { is_of_walk = false; event = event }) events

abbrev pub walked : Events → List CrewEvent
walked events = map (λ event. record { is_of_walk = true; event = event }) events

-- those by its own pass, those of walks, and all of them
abbrev pub own_of : List CrewEvent → Events
own_of made = flat_map (λ one. if one.is_of_walk then [] else one.event ∷ []) made

abbrev pub walked_of : List CrewEvent → Events
walked_of made = flat_map (λ one. if one.is_of_walk then one.event ∷ [] else []) made

abbrev pub events_of : List CrewEvent → Events
events_of made = map (λ one. one.event) made

-- on the stripe of this number
module _ (k : ℕ) where
  -- what the pass made on a walk whose turn the stripe is
  abbrev pub made_in_turn : {Made : ℕ → View GhostAction → Events → Events → Type 0} (n : ℕ) (d : PassState) (before after : List PassState) → AllWalked n Made before after
      → (k < n) ⊎ (n ≤ k) → (k % length before < length before) ⊎ (length before ≤ k % length before) → Events
  made_in_turn n d before after walks (inl within) (inl some) = ((walks.each (k % length before) d some).turns k (within, refl)).0
  made_in_turn n d before after walks (inl within) (inr none) = []
  made_in_turn n d before after walks (inr beyond) some = []

  abbrev pub made_by_walk : {Made : ℕ → View GhostAction → Events → Events → Type 0} (n : ℕ) (d : PassState) (before after : List PassState) → AllWalked n Made before after → List CrewEvent
  made_by_walk n d before after walks =
      walked (made_in_turn n d before after walks (cases_lt k n) (cases_lt (k % length before) (length before)))

  -- the event of a call that was made, if its key lies there
  abbrev pub made_by_call : (old new : PassState) (responses : List Response) (invocation : Invocation)
      → (((reply : Reply) × Calls old invocation reply new × (responses ≡ response_to reply ∷ []))
      ⊎ (RefusesCall old invocation new × (responses ≡ tell.Refused 9 0 ∷ []))) → List CrewEvent
  made_by_call old new responses invocation (inl (reply, calls, is)) =
      own (if stripe_for old invocation == k then own_events old.view (called invocation reply ∷ []) else [])
  made_by_call old new responses invocation (inr refused) = []

  -- what is made for a request: the call's event; or of a walk what the team made
  abbrev pub made_as_asked : (hello : Option Version) (old new : Station) (responses : List Response) (asks : Asked) → CrewMeets hello old asks responses new → List CrewEvent
  made_as_asked hello old new responses (greeting version) meets = []
  made_as_asked hello old new responses (registration sizes bytes) meets = []
  made_as_asked hello old new responses (call invocation) meets = made_by_call old.pass new.pass responses invocation meets.made
  made_as_asked hello old new responses (walk kind program arg) (inl (reply, walks, is)) =
      made_by_walk (stripes_of old.pass.map) old.pass walks.told new.team walks.walks.walked
  made_as_asked hello old new responses (walk kind program arg) (inr (walks, is)) =
      made_by_walk (stripes_of old.pass.map) old.pass walks.told new.team walks.walks
  made_as_asked hello old new responses (replacement program arg) (inl (reply, walks, is)) =
      made_by_walk (stripes_of old.pass.map) old.pass walks.told new.team walks.walks.walked
  made_as_asked hello old new responses (replacement program arg) (inr (walks, is)) = []
  made_as_asked hello old new responses count (inl (reply, walks, is)) =
      made_by_walk (stripes_of old.pass.map) old.pass walks.told new.team walks.walks.walked
  made_as_asked hello old new responses count (inr (walks, is)) =
      made_by_walk (stripes_of old.pass.map) old.pass walks.told new.team walks.walks
  made_as_asked hello old new responses unknown meets = []

  abbrev pub made_by_step : (hello : Option Version) (old : Station) (request : Request) (responses : List Response) (new : Station) → CrewServes hello old request responses new → List CrewEvent
  made_by_step hello old request responses new (inl answers) =
      made_as_asked hello (keeping old answers.kept) new responses (asked (λ _. answers.found) request) answers.meets
  made_by_step hello old request responses new (inr refused) = []

  -- in sessions, one after the other
  abbrev pub made_in_sessions : (n : ℕ) (old new : Crew) → SessionsOfCrew n old new → List CrewEvent
  made_in_sessions zero old new same = []
  made_in_sessions (suc n) old new (mid, before, one) =
      made_in_sessions n old mid before
      ++ in_session CrewServes made_by_step (station mid (no_tokens one.registry)) (station new one.tokens) one.read one.written one.last one.end one.ended

  -- ---- what is known of it

  -- what each pass of the team had made there, from the worker j on, and after it these events, if the stripe is in its turn
  abbrev pub team_made : (workers j : ℕ) (team : List PassState) (events : Events) → Events
  team_made workers j [] events = []
  team_made workers j (member ∷ team) events =
      (mine_of member.view k ++ (if k % workers == j then events else [])) ++ team_made workers (suc j) team events

  -- what a crew's passes had made there, and what they made since: each pass its own
  abbrev pub crew_made : Known → List CrewEvent → Events
  crew_made old made = (mine_of old.pass.view k ++ own_of made) ++ team_made (length old.team) 0 old.team (walked_of made)

-- these events are in the list in their order, with any others between them
abbrev pub HasInOrder : Events → Events → Type 0
HasInOrder [] all = Unit {0}
HasInOrder (event ∷ events) all =
    (before : Events) × (after : Events) × (all ≡ before ++ event ∷ after) × HasInOrder events after

-- the pass has seen on the stripe k what the crew's pass had seen, and after it all that the crew made since, in the order of its answers
pub record SeesInOrder (k : ℕ) (old : Known) (made : List CrewEvent) (pass : PassState) : Type 0 where
  pub rest : Events
  pub begins : seen_of pass.view k ≡ seen_of old.pass.view k ++ rest
  pub order : HasInOrder (events_of made) rest

-- the joined pass has seen on the stripe k, under each number that it carries, just what the passes of two crews had made and what they
-- made since, each event once; and what each crew made in the order of its answers
pub record SeesCrews (k : ℕ) (first : Known) (made : List CrewEvent) (second : Known) (later : List CrewEvent) (joined : PassState) : Type 0 where
  pub once : (q : ℕ) → Carries joined.view q
      → made_by q (seen_of joined.view k) ≡ made_by q (crew_made k first made ++ crew_made k second later)
  pub order : SeesInOrder k first made joined
  pub order_other : SeesInOrder k second later joined

-- the team's passes are of the map of the crew's pass
abbrev pub IsOfOneMap : Known → Type 0
IsOfOneMap known = All (λ member. member.map ≡ known.pass.map) known.team

-- so it is of two crews after any number of sessions
abbrev pub SeesSessions : Crew → Crew → PassState → Type 0
SeesSessions one other joined =
    (n m : ℕ) (first second : Crew) (sessions : SessionsOfCrew n first one) (later : SessionsOfCrew m second other) (k : ℕ)
    → IsOfOneMap (known_of first) → IsOfOneMap (known_of second) → k < stripes_of joined.map
    → SeesCrews k (known_of first) (made_in_sessions k n first one sessions) (known_of second) (made_in_sessions k m second other later) joined

-- ---- joining a crew

-- the numbers that a crew's passes carry
abbrev pub crew_numbers : Known → List ℕ
crew_numbers known = known.pass.view.numbers ++ flat_map (λ member. member.view.numbers) known.team

-- what passes have made on the stripe k
abbrev pub all_mine : ℕ → List PassState → Events
all_mine k passes = flat_map (λ pass. mine_of pass.view k) passes

-- the pass has joined all passes of a crew
pub record Joins (k : ℕ) (crew : Known) (pass : PassState) : Type 0 where
  pub mine : mine_of pass.view k ≡ mine_of crew.pass.view k ++ all_mine k crew.team
  pub begins : StartsWith (seen_of pass.view k) (seen_of crew.pass.view k)
