-- How a walk of the team answers a request.
use Rattle.std.proofs.Common.{◌≡◌, ◌∙◌, inl, inr, ℕ, Bool, All, List, [], ◌∷◌, Result, Ok, Err, MatchResult, refl, sym, ap, subst}
use Rattle.atomic_table.specs.Seated.{TableId}
use Rattle.bpf_model.specs.declared.memory.NoMemory.{NoMemory}
use Rattle.atomic_methods.specs.declared.walk_reply.WalkReply.{WalkReply}
use Rattle.bin_stripes.specs.Passes.{PassState, stripes_of}
use Rattle.client_protocol.specs.declared.response.Response.{Response}
use Rattle.client_protocol.specs.declared.response.Response.TheVariants as tell
use Rattle.sessions.specs.Answering.{walk_responses}
use Rattle.crews.specs.Stations.{KeptTokens, Station}
use Rattle.crews.specs.Steps.{IsToldBy, Pairwise, HearsEach, CrewAnswersWalk}

-- what a walk's result is answered by
abbrev pub IsAnswered : Result WalkReply NoMemory → List Response → Type 0
IsAnswered result responses = MatchResult result (λ reply. responses ≡ walk_responses reply) (λ _. responses ≡ tell.Refused 9 0 ∷ [])

pub team_answers : (old new : Station) (Replies : List PassState → List PassState → WalkReply → Type 0) (Stops : List PassState → List PassState → Type 0)
    (told : List PassState) (result : Result WalkReply NoMemory) (responses : List Response)
    → Pairwise (IsToldBy old.pass) old.team told → MatchResult result (λ reply. Replies told new.team reply) (λ _. Stops told new.team)
    → HearsEach old.pass new.team new.pass → All (λ (member : PassState). member.map ≡ old.pass.map) new.team → new.tokens ≡ old.tokens → new.is_strict ≡ old.is_strict → IsAnswered result responses
    → CrewAnswersWalk old Replies Stops responses new
team_answers old new Replies Stops told (Ok reply) responses tells walks hears map tokens strict is =
    inl (reply, record { told = told; tells = tells; walks = walks; hears = hears; map = map; tokens = tokens; strict = strict }, is)
team_answers old new Replies Stops told (Err e) responses tells walks hears map tokens strict is =
    inr (record { told = told; tells = tells; walks = walks; hears = hears; map = map; tokens = tokens; strict = strict }, is)

-- the same of the parts that a crew's state has: its pass was told to the team, which walked, and heard of it
pub walked_by_team : (Replies : ℕ → List PassState → List PassState → WalkReply → Type 0) (Stops : ℕ → List PassState → List PassState → Type 0)
    (old : Station) (pass : PassState) (team : List PassState) (tokens : KeptTokens) (strict : Bool) (id : TableId)
    (given told after left : List PassState) (new : PassState) (result : Result WalkReply NoMemory) (responses : List Response)
    → old ≡ record { pass = pass; team = team; tokens = tokens; is_strict = strict } → pass.map ≡ id → given ≡ team → left ≡ after
    → Pairwise (IsToldBy pass) given told → MatchResult result (λ reply. Replies (stripes_of id) told after reply) (λ _. Stops (stripes_of id) told after)
    → HearsEach pass after new → All (λ (member : PassState). member.map ≡ id) after → IsAnswered result responses
    → CrewAnswersWalk old (λ x y reply. Replies (stripes_of old.pass.map) x y reply) (λ x y. Stops (stripes_of old.pass.map) x y) responses
    (record { pass = new; team = left; tokens = tokens; is_strict = strict })
walked_by_team Replies Stops old pass team tokens strict id given told after left new result responses old_is map given_is left_is tells walks hears maps is =
    let at : Station = record { pass = pass; team = team; tokens = tokens; is_strict = strict } in
    let n : stripes_of id ≡ stripes_of pass.map = ap stripes_of (sym map) in
    let tells2 : Pairwise (IsToldBy pass) team told = subst (λ (ps : List PassState). Pairwise (IsToldBy pass) ps told) given_is tells in
    let walks2 : MatchResult result (λ reply. Replies (stripes_of pass.map) told after reply) (λ _. Stops (stripes_of pass.map) told after) =
    subst (λ (m : ℕ). MatchResult result (λ reply. Replies m told after reply) (λ _. Stops m told after)) n walks in
    let there : CrewAnswersWalk at (λ x y reply. Replies (stripes_of pass.map) x y reply) (λ x y. Stops (stripes_of pass.map) x y) responses (record { pass = new; team = after; tokens = tokens; is_strict = strict }) =
    team_answers at (record { pass = new; team = after; tokens = tokens; is_strict = strict }) (λ x y reply. Replies (stripes_of pass.map) x y reply) (λ x y. Stops (stripes_of pass.map) x y) told result responses tells2 walks2 hears (λ i d lt. maps i d lt ∙ sym map) refl refl is in
    let left_there : CrewAnswersWalk at (λ x y reply. Replies (stripes_of pass.map) x y reply) (λ x y. Stops (stripes_of pass.map) x y) responses (record { pass = new; team = left; tokens = tokens; is_strict = strict }) =
    subst (λ (ps : List PassState). CrewAnswersWalk at (λ x y reply. Replies (stripes_of pass.map) x y reply) (λ x y. Stops (stripes_of pass.map) x y) responses (record { pass = new; team = ps; tokens = tokens; is_strict = strict })) (sym left_is) there in
    subst (λ (s : Station). CrewAnswersWalk s (λ x y reply. Replies (stripes_of s.pass.map) x y reply) (λ x y. Stops (stripes_of s.pass.map) x y) responses (record { pass = new; team = left; tokens = tokens; is_strict = strict })) (sym old_is) left_there
