-- How a crew answers a request, and what its passes then know. The methods are those of Java SE 17's ConcurrentMap; numbers and
-- refusals are this map's profile.
use Rattle.std.specs.Prelude.{◌≡◌, ◌⊎◌, ◌<◌, ℕ, List, [], ◌∷◌, ◌++◌, length, Option, None, Some, IfSome, IsSome, IsTrue, MatchOption, All, slice_index_or}
use Rattle.bpf_model.specs.declared.input.Sizes.{Sizes}
use Rattle.bpf_model.specs.Meaning.{IsSafe}
use Rattle.stripe_rule.specs.Gains.{Hears}
use Rattle.verifier.specs.Checked.{Checked}
use Rattle.atomic_methods.specs.Invocations.{Invocation}
use Rattle.atomic_methods.specs.declared.reply.Reply.{Reply}
use Rattle.atomic_methods.specs.declared.walk_reply.WalkReply.{WalkReply}
use Rattle.bin_stripes.specs.Invoked.{Calls, RefusesCall}
use Rattle.bin_stripes.specs.Passes.{PassState, ServesSameMap, stripes_of}
use Rattle.bulk_walks.specs.Walks.{IsWalk, CountsAll, ReplacesAll, AllWalked, MayScan}
use Rattle.client_protocol.specs.declared.limits.Version.{Version}
use Rattle.client_protocol.specs.Requests.{Request}
use Rattle.client_protocol.specs.Requests.Request.{Search, ForEach, ReplaceAll}
use Rattle.client_protocol.specs.declared.response.Response.{Response}
use Rattle.client_protocol.specs.declared.response.Response.TheVariants as tell
use Rattle.program_registry.specs.declared.registry.ProgramToken.{ProgramToken}
use Rattle.program_registry.specs.Tokens.{program_of, token_number}
use Rattle.sessions.specs.Answering.{walk_responses}
use Rattle.sessions.specs.Asking.{Asked, asked, named, greeting, registration, call, walk, replacement, count, unknown, with_program, may_change, response_to, Admits, RefusesProgram, AnswersOnce, TellsNoMemory}
use Rattle.crews.specs.Stations.{KeptTokens, Station}

-- the one token has the other's number only if it stands for the same program
abbrev pub IsLike : ProgramToken → ProgramToken → Type 0
IsLike token other = token_number token ≡ token_number other → program_of token ≡ program_of other

-- a number that the one and the other tokens have means the same program in both
abbrev pub MeanTheSame : List ProgramToken → List ProgramToken → Type 0
MeanTheSame tokens others = All (λ token. All (λ other. IsLike other token) others) tokens

-- tokens of one number stand for one program
abbrev pub Agree : List ProgramToken → Type 0
Agree tokens = MeanTheSame tokens tokens

-- a token of this number, which stands for this program, is among the tokens
pub record IsHeld (tokens : List ProgramToken) (number : ℕ) (program : Checked) : Type 0 where
  pub held : ProgramToken
  pub place : ℕ
  pub inside : place < length tokens
  pub there : held ≡ slice_index_or tokens place held
  pub number_is : token_number held ≡ number
  pub program_is : program_of held ≡ program

-- these tokens and one more
abbrev pub with_token : KeptTokens → ProgramToken → KeptTokens
with_token kept token = record { registry = kept.registry; items = kept.items ++ token ∷ [] }

-- what is found under the number, and the tokens that are kept then. A program is found only with a token of that number, which stands
-- for it and is kept. Each kept token of that number stands for what is found. If nothing is found, there is no such token
pub record Finds (old : KeptTokens) (number : ℕ) (found : Option Checked) (kept : KeptTokens) : Type 0 where
  pub own : All (λ token. token_number token ≡ number → found ≡ Some (program_of token)) kept.items
  pub held : IfSome found (λ program. IsHeld kept.items number program)
  pub safe : IfSome found (λ program. IsSafe program.program program.sizes)
  -- at most one token is new
  pub grown : (kept ≡ old) ⊎ ((token : ProgramToken) × (token_number token ≡ number) × (kept ≡ with_token old token))

-- nothing is found, and the response tells so; or memory for the token that is to be kept is refused, and nothing changes
abbrev pub IsNotFound : KeptTokens → ℕ → Response → KeptTokens → Type 0
IsNotFound old number response kept =
    ((response ≡ tell.Refused 66 0) × Finds old number None kept) ⊎ ((response ≡ tell.Refused 9 0) × (kept ≡ old))

-- the state with these tokens
abbrev pub keeping : Station → KeptTokens → Station
keeping station kept = record station { tokens = kept }

-- the number of the program that a request names, if it names one
abbrev pub number_in : Request → Option ℕ
number_in (Search number arg threshold) = Some number
number_in (ForEach number arg threshold) = Some number
number_in (ReplaceAll number arg) = Some number
number_in request = named request

-- a pass that was told what another knows
pub record IsToldBy (from old new : PassState) : Type 0 where
  pub same : ServesSameMap old new
  pub hears : Hears (stripes_of old.map) from.view old.view new.view

-- place by place
abbrev pub Pairwise : {A : Type 0} → (A → A → Type 0) → List A → List A → Type 0
Pairwise R [] [] = Unit {0}
Pairwise R (x ∷ xs) (y ∷ ys) = R x y × Pairwise R xs ys
Pairwise R xs ys = ⊥

-- a pass that was told what each of these know, one after the other
abbrev pub HearsEach : PassState → List PassState → PassState → Type 0
HearsEach old [] new = new ≡ old
HearsEach old (pass ∷ passes) new = (next : PassState) × IsToldBy pass old next × HearsEach next passes new

-- the team, whose passes stay those of the map, is told what the crew's pass knows, walks, and is heard
pub record TeamWalks (old : Station) (Walks : List PassState → List PassState → Type 0) (new : Station) : Type 0 where
  pub told : List PassState
  pub tells : Pairwise (IsToldBy old.pass) old.team told
  pub walks : Walks told new.team
  pub hears : HearsEach old.pass new.team new.pass
  pub map : All (λ member. member.map ≡ old.pass.map) new.team
  pub tokens : new.tokens ≡ old.tokens
  pub strict : new.is_strict ≡ old.is_strict

-- the team walks and has this answer; or it is refused memory, and what it did then is by `Stops`
abbrev pub CrewAnswersWalk : Station → (List PassState → List PassState → WalkReply → Type 0)
    → (List PassState → List PassState → Type 0) → List Response → Station → Type 0
CrewAnswersWalk old Replies Stops responses new =
    ((reply : WalkReply) × TeamWalks old (λ before after. Replies before after reply) new × (responses ≡ walk_responses reply))
    ⊎ (TeamWalks old Stops new × (responses ≡ tell.Refused 9 0 ∷ []))

-- the call is made and answered; or memory was refused to it, and what the pass has seen then leaves a table to which it would
-- add its key
pub record CrewAnswersCall (old : Station) (invocation : Invocation) (responses : List Response) (new : Station) : Type 0 where
  pub team : new.team ≡ old.team
  pub tokens : new.tokens ≡ old.tokens
  pub strict : new.is_strict ≡ old.is_strict
  pub same : ServesSameMap old.pass new.pass
  pub made : ((reply : Reply) × Calls old.pass invocation reply new.pass × (responses ≡ response_to reply ∷ []))
      ⊎ (RefusesCall old.pass invocation new.pass × (responses ≡ tell.Refused 9 0 ∷ []))

-- the program is registered and its token kept, whose number is answered; or a token of its number is there already, which stands
-- for this very program, and nothing changes; or it is refused by the first step that refuses it; or memory is refused
abbrev pub CrewAnswersRegister : Option Version → Station → Sizes → List ℕ → List Response → Station → Type 0
CrewAnswersRegister hello old sizes bytes responses new =
    ((token : ProgramToken) × Admits hello sizes bytes (program_of token) × (responses ≡ tell.Registered (token_number token) ∷ [])
    × (new ≡ keeping old (with_token old.tokens token)))
    ⊎ (((token : ProgramToken) × Admits hello sizes bytes (program_of token) × IsHeld old.tokens.items (token_number token) (program_of token)
    × AnswersOnce old (tell.Registered (token_number token)) responses new)
    ⊎ (((response : Response) × RefusesProgram hello sizes bytes response × AnswersOnce old response responses new)
    ⊎ TellsNoMemory old responses new))

-- the response to a program that isn't registered: it tells the first step that refuses it, or that memory is refused
abbrev pub IsRefusal : Option Version → Sizes → List ℕ → Response → Type 0
IsRefusal hello sizes bytes response = RefusesProgram hello sizes bytes response ⊎ (response ≡ tell.Refused 9 0)

abbrev pub CrewMeets : Option Version → Station → Asked → List Response → Station → Type 0
CrewMeets hello old (greeting version) responses new = AnswersOnce old (tell.Hello version) responses new
CrewMeets hello old (registration sizes bytes) responses new = CrewAnswersRegister hello old sizes bytes responses new
CrewMeets hello old (call invocation) responses new = CrewAnswersCall old invocation responses new
CrewMeets hello old (walk kind program arg) responses new =
    let n = stripes_of old.pass.map in
    CrewAnswersWalk old (λ before after reply. IsWalk kind n program arg before after reply) (λ before after. AllWalked n MayScan before after) responses new
CrewMeets hello old (replacement program arg) responses new =
    let n = stripes_of old.pass.map in
    CrewAnswersWalk old (λ before after reply. ReplacesAll n program arg before after reply) (λ before after. after ≡ before) responses new
CrewMeets hello old count responses new =
    let n = stripes_of old.pass.map in
    CrewAnswersWalk old (λ before after reply. CountsAll n before after reply) (λ before after. AllWalked n MayScan before after) responses new
CrewMeets hello old unknown responses new = AnswersOnce old (tell.Refused 66 0) responses new

-- what is asked for with the program that is found under the number is answered by these responses
pub record AnswersWithProgram (hello : Option Version) (old : Station) (number : ℕ) (asks : Checked → Asked) (responses : List Response) (new : Station) : Type 0 where
  pub found : Option Checked
  pub kept : KeptTokens
  pub finds : Finds old.tokens number found kept
  pub meets : CrewMeets hello (keeping old kept) (with_program found asks) responses new

-- so it is; or memory for the token that is to be kept is refused
abbrev pub AsksWithProgram : Option Version → Station → ℕ → (Checked → Asked) → List Response → Station → Type 0
AsksWithProgram hello old number asks responses new =
    AnswersWithProgram hello old number asks responses new ⊎ TellsNoMemory old responses new

-- a request after this Hello is answered by these responses, and the crew's passes and tokens are then so; what it asks for is
-- by the program that is found under the number that it names
pub record CrewAnswers (hello : Option Version) (old : Station) (request : Request) (responses : List Response) (new : Station) : Type 0 where
  pub found : Option Checked
  pub kept : KeptTokens
  pub finds : MatchOption (number_in request) (kept ≡ old.tokens) (λ number. Finds old.tokens number found kept)
  pub meets : CrewMeets hello (keeping old kept) (asked (λ _. found) request) responses new

-- the request may be refused whatever the passes know: it names a program, for whose token there may be no memory; or it may change the
-- map, and the server is strict
abbrev pub MayBeRefused : Station → Request → Type 0
MayBeRefused old request = IsSome (number_in request) ⊎ (IsTrue old.is_strict × IsTrue (may_change request))

-- so it is; or it is refused, as if there were no memory
abbrev pub CrewServes : Option Version → Station → Request → List Response → Station → Type 0
CrewServes hello old request responses new =
    CrewAnswers hello old request responses new ⊎ (MayBeRefused old request × TellsNoMemory old responses new)
