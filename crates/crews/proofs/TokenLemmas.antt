-- Programs that are found by their numbers.
use Rattle.std.proofs.Common.{◌≡◌, ℕ, ◌+◌, ◌<◌, List, [], ◌∷◌, ◌++◌, length, take, get_or, All, Option, Some, None, inl, inr, refl, sym, ap, subst, ◌∙◌}
use Rattle.std.proofs.lemmas.List.{take_more}
use Rattle.std.proofs.lemmas.List.Elements.{All-append, All-from_recursion, All-get_or, All-from_get_or, All-weaker}
use Rattle.bpf_model.specs.Meaning.{IsSafe}
use Rattle.verifier.specs.Checked.{Checked}
use Rattle.client_protocol.specs.declared.limits.Version.{Version}
use Rattle.client_protocol.specs.Requests.{Request}
use Rattle.client_protocol.specs.Requests.Request.{Hello, Register, Get, Put, PutIfAbsent, Remove, RemoveIf, Replace, ReplaceIf, Compute, ComputeIfAbsent, ComputeIfPresent, Merge, Search, ForEach, ReplaceAll, Count}
use Rattle.client_protocol.specs.declared.response.Response.{Response}
use Rattle.client_protocol.specs.declared.response.Response.TheVariants as tell
use Rattle.bpf_model.specs.declared.input.Sizes.{Sizes}
use Rattle.program_registry.specs.declared.registry.ProgramToken.{ProgramToken}
use Rattle.program_registry.specs.declared.registry.Registry.{Registry}
use Rattle.program_registry.specs.Tokens.{program_of, token_number}
use Rattle.atomic_methods.specs.declared.walk_reply.WalkKind.TheVariants as kind
use Rattle.sessions.specs.Asking.{Asked, asked, named, greeting, registration, walk, replacement, count, unknown, with_program, Admits, IsCall}
use Rattle.crews.specs.Stations.{KeptTokens, tokens_of, Station}
use Rattle.crews.specs.Steps.{IsLike, Agree, IsHeld, Finds, IsNotFound, keeping, number_in, CrewMeets, CrewAnswersRegister, IsRefusal, AsksWithProgram, CrewServes}

-- what holds of the elements so far, and of the next one
pub one_further : {X : Type 0} (P : X → Type 0) (xs : List X) (i : ℕ) (x : X) → i < length xs → x ≡ get_or xs i x → All P (take i xs) → P x → All P (take (i + 1) xs)
one_further {X} P xs i x lt is before here =
    subst (λ (ys : List X). All P ys) (sym (take_more xs i x lt)) (All-append P (take i xs) (get_or xs i x ∷ []) before (All-from_recursion P (get_or xs i x ∷ []) (subst P is here, tt)))

-- a token has the number, and so all that have it stand for its program
pub found_here : (registry : Registry) (tokens : List ProgramToken) (i : ℕ) (token : ProgramToken) (number : ℕ) (found : Checked) → i < length tokens → token ≡ get_or tokens i token
    → Agree tokens → token_number token ≡ number → found ≡ program_of token → IsSafe found.program found.sizes → Finds (tokens_of registry tokens) number (Some found) (tokens_of registry tokens)
found_here registry tokens i token number found lt is agree same program safe =
    let alike : All (λ (other : ProgramToken). IsLike other token) tokens =
    subst (λ (t : ProgramToken). All (λ (other : ProgramToken). IsLike other t) tokens) (sym is) (All-get_or (λ (t : ProgramToken). All (λ (other : ProgramToken). IsLike other t) tokens) tokens i token lt agree) in
    record {
      own = All-weaker (λ (other : ProgramToken). IsLike other token) (λ (other : ProgramToken). token_number other ≡ number → Some found ≡ Some (program_of other)) (λ other like has. ap Some (program ∙ sym (like (has ∙ sym same)))) tokens alike;
      held = record { held = token; place = i; inside = lt; there = is; number_is = same; program_is = sym program };
      safe = safe;
      grown = inl refl;
    }

-- one more token, which is like those that are there
pub agree_more : (tokens : List ProgramToken) (token : ProgramToken) → Agree tokens → All (λ other. IsLike other token) tokens → Agree (tokens ++ token ∷ [])
agree_more tokens token agree like =
    let longer : (t : ProgramToken) → IsLike token t → All (λ (other : ProgramToken). IsLike other t) tokens → All (λ (other : ProgramToken). IsLike other t) (tokens ++ token ∷ []) =
    λ t last all. All-append (λ (other : ProgramToken). IsLike other t) tokens (token ∷ []) all (All-from_recursion (λ (other : ProgramToken). IsLike other t) (token ∷ []) (last, tt)) in
    let turned : (t : ProgramToken) → IsLike t token → IsLike token t = λ t is same. sym (is (sym same)) in
    All-append (λ (t : ProgramToken). All (λ (other : ProgramToken). IsLike other t) (tokens ++ token ∷ [])) tokens (token ∷ [])
    (All-from_get_or (λ (t : ProgramToken). All (λ (other : ProgramToken). IsLike other t) (tokens ++ token ∷ [])) tokens token
    (λ i lt. longer (get_or tokens i token) (turned (get_or tokens i token) (All-get_or (λ (t : ProgramToken). IsLike t token) tokens i token lt like)) (All-get_or (λ (t : ProgramToken). All (λ (other : ProgramToken). IsLike other t) tokens) tokens i token lt agree)))
    (All-from_recursion (λ (t : ProgramToken). All (λ (other : ProgramToken). IsLike other t) (tokens ++ token ∷ [])) (token ∷ []) (longer token (λ same. refl) like, tt))

-- the program of a token that is held is answered again
pub answered_again : (hello : Option Version) (old : Station) (sizes : Sizes) (bytes : List ℕ) (token : ProgramToken) → Admits hello sizes bytes (program_of token) → IsHeld old.tokens.items (token_number token) (program_of token)
    → CrewAnswersRegister hello old sizes bytes (tell.Registered (token_number token) ∷ []) old
answered_again hello old sizes bytes token admits held = inr (inl (token, admits, held, (refl, refl)))

-- a program that isn't registered leaves all as it was
pub register_refused : (hello : Option Version) (old : Station) (sizes : Sizes) (bytes : List ℕ) (response : Response) → IsRefusal hello sizes bytes response
    → CrewAnswersRegister hello old sizes bytes (response ∷ []) old
register_refused hello old sizes bytes response (inl refuses) = inr (inr (inl (response, refuses, (refl, refl))))
register_refused hello old sizes bytes response (inr is) = inr (inr (inr (ap (λ (r : Response). r ∷ []) is, refl)))

-- a call names a program by the number that its request has
number_of_call : (request : Request) → IsCall request → number_in request ≡ named request
number_of_call (Hello version) call = absurd call
number_of_call (Register sizes program) call = absurd call
number_of_call (Get key) call = refl
number_of_call (Put key value) call = refl
number_of_call (PutIfAbsent key value) call = refl
number_of_call (Remove key) call = refl
number_of_call (RemoveIf key expected) call = refl
number_of_call (Replace key value) call = refl
number_of_call (ReplaceIf key expected value) call = refl
number_of_call (Compute key number arg) call = refl
number_of_call (ComputeIfAbsent key number arg) call = refl
number_of_call (ComputeIfPresent key number arg) call = refl
number_of_call (Merge key value number) call = refl
number_of_call (Search number arg threshold) call = absurd call
number_of_call (ForEach number arg threshold) call = absurd call
number_of_call (ReplaceAll number arg) call = absurd call
number_of_call Count call = absurd call

pub names_one : (hello : Option Version) (old : Station) (request : Request) (number : ℕ) (found : Option Checked) (kept : KeptTokens) (responses : List Response) (new : Station) → IsCall request → named request ≡ Some number
    → Finds old.tokens number found kept → CrewMeets hello (keeping old kept) (asked (λ _. found) request) responses new → CrewServes hello old request responses new
names_one hello old request number found kept responses new call is finds meets =
    inl (record { found = found; kept = kept; finds = rw (number_of_call request call ∙ is) finds; meets = meets })

-- a call that names a program asks for what is unknown, if none is found
unknown_asked : (request : Request) (number : ℕ) → named request ≡ Some number → asked (λ _. None) request ≡ unknown
unknown_asked (Hello version) number is = absurd cc
unknown_asked (Register sizes program) number is = absurd cc
unknown_asked (Get key) number is = absurd cc
unknown_asked (Put key value) number is = absurd cc
unknown_asked (PutIfAbsent key value) number is = absurd cc
unknown_asked (Remove key) number is = absurd cc
unknown_asked (RemoveIf key expected) number is = absurd cc
unknown_asked (Replace key value) number is = absurd cc
unknown_asked (ReplaceIf key expected value) number is = absurd cc
unknown_asked (Compute key program arg) number is = refl
unknown_asked (ComputeIfAbsent key program arg) number is = refl
unknown_asked (ComputeIfPresent key program arg) number is = refl
unknown_asked (Merge key value program) number is = refl
unknown_asked (Search program arg threshold) number is = absurd cc
unknown_asked (ForEach program arg threshold) number is = absurd cc
unknown_asked (ReplaceAll program arg) number is = absurd cc
unknown_asked Count number is = absurd cc

-- the program that a call names is not found
pub names_not_found : (hello : Option Version) (old : Station) (request : Request) (number : ℕ) (response : Response) (responses : List Response) (kept : KeptTokens) → IsCall request → named request ≡ Some number
    → responses ≡ response ∷ [] → IsNotFound old.tokens number response kept → CrewServes hello old request responses (keeping old kept)
names_not_found hello old request number response responses kept call names is (inl (unknown_is, finds)) =
    names_one hello old request number None kept responses (keeping old kept) call names finds
    (subst (λ (a : Asked). CrewMeets hello (keeping old kept) a responses (keeping old kept)) (sym (unknown_asked request number names)) (is ∙ ap (λ (r : Response). r ∷ []) unknown_is, refl))
names_not_found hello old request number response responses kept call names is (inr (refused, same)) =
    inr (inl (rw (number_of_call request call ∙ names) refl), (is ∙ ap (λ (r : Response). r ∷ []) refused, ap (λ (t : KeptTokens). keeping old t) same))

-- nor is the one that a walk names
pub walk_not_found : (hello : Option Version) (old : Station) (number : ℕ) (asks : Checked → Asked) (response : Response) (responses : List Response) (kept : KeptTokens)
    → responses ≡ response ∷ [] → IsNotFound old.tokens number response kept → AsksWithProgram hello old number asks responses (keeping old kept)
walk_not_found hello old number asks response responses kept is (inl (unknown_is, finds)) =
    inl (record { found = None; kept = kept; finds = finds; meets = (is ∙ ap (λ (r : Response). r ∷ []) unknown_is, refl) })
walk_not_found hello old number asks response responses kept is (inr (refused, same)) =
    inr (is ∙ ap (λ (r : Response). r ∷ []) refused, ap (λ (t : KeptTokens). keeping old t) same)

pub names_none : (hello : Option Version) (old : Station) (request : Request) (responses : List Response) (new : Station) → IsCall request → named request ≡ None
    → CrewMeets hello old (asked (λ _. None) request) responses new → CrewServes hello old request responses new
names_none hello old request responses new call is meets =
    inl (record { found = None; kept = old.tokens; finds = rw (number_of_call request call ∙ is) refl; meets = meets })

-- what answers a request that has a number of its own, whatever is asked for with the program
with_number : (hello : Option Version) (old : Station) (request : Request) (number : ℕ) (asks : Checked → Asked) (responses : List Response) (new : Station)
    → number_in request ≡ Some number → ((found : Option Checked) → asked (λ _. found) request ≡ with_program found asks)
    → AsksWithProgram hello old number asks responses new → CrewServes hello old request responses new
with_number hello old request number asks responses new is same (inl answers) =
    inl (record { found = answers.found; kept = answers.kept; finds = rw is answers.finds; meets = subst (λ (a : Asked). CrewMeets hello (keeping old answers.kept) a responses new) (sym (same answers.found)) answers.meets })
with_number hello old request number asks responses new is same (inr refused) = inr (inl (rw is refl), refused)

-- a walk runs the program that its request names
pub serves_search : (hello : Option Version) (old : Station) (request : Request) (number : ℕ) (arg : Option (List ℕ)) (threshold : ℕ) (responses : List Response) (new : Station)
    → Search number arg threshold ≡ request → AsksWithProgram hello old number (λ program. walk kind.Search program arg) responses new → CrewServes hello old request responses new
serves_search hello old request number arg threshold responses new is asks =
    let here : CrewServes hello old (Search number arg threshold) responses new = with_number hello old (Search number arg threshold) number (λ program. walk kind.Search program arg) responses new refl (λ found. refl) asks in
    subst (λ (r : Request). CrewServes hello old r responses new) is here

pub serves_for_each : (hello : Option Version) (old : Station) (request : Request) (number : ℕ) (arg : Option (List ℕ)) (threshold : ℕ) (responses : List Response) (new : Station)
    → ForEach number arg threshold ≡ request → AsksWithProgram hello old number (λ program. walk kind.ForEach program arg) responses new → CrewServes hello old request responses new
serves_for_each hello old request number arg threshold responses new is asks =
    let here : CrewServes hello old (ForEach number arg threshold) responses new = with_number hello old (ForEach number arg threshold) number (λ program. walk kind.ForEach program arg) responses new refl (λ found. refl) asks in
    subst (λ (r : Request). CrewServes hello old r responses new) is here

pub serves_replacement : (hello : Option Version) (old : Station) (request : Request) (number : ℕ) (arg : Option (List ℕ)) (responses : List Response) (new : Station)
    → ReplaceAll number arg ≡ request → AsksWithProgram hello old number (λ program. replacement program arg) responses new → CrewServes hello old request responses new
serves_replacement hello old request number arg responses new is asks =
    let here : CrewServes hello old (ReplaceAll number arg) responses new = with_number hello old (ReplaceAll number arg) number (λ program. replacement program arg) responses new refl (λ found. refl) asks in
    subst (λ (r : Request). CrewServes hello old r responses new) is here

pub serves_hello : (hello : Option Version) (old : Station) (request : Request) (version : Version) (responses : List Response) (new : Station)
    → Hello version ≡ request → CrewMeets hello old (greeting version) responses new → CrewServes hello old request responses new
serves_hello hello old request version responses new is meets =
    let here : CrewServes hello old (Hello version) responses new = inl (record { found = None; kept = old.tokens; finds = refl; meets = meets }) in
    subst (λ (r : Request). CrewServes hello old r responses new) is here

pub serves_register : (hello : Option Version) (old : Station) (request : Request) (sizes : Sizes) (bytes : List ℕ) (responses : List Response) (new : Station)
    → Register sizes bytes ≡ request → CrewMeets hello old (registration sizes bytes) responses new → CrewServes hello old request responses new
serves_register hello old request sizes bytes responses new is meets =
    let here : CrewServes hello old (Register sizes bytes) responses new = inl (record { found = None; kept = old.tokens; finds = refl; meets = meets }) in
    subst (λ (r : Request). CrewServes hello old r responses new) is here

pub serves_count : (hello : Option Version) (old : Station) (request : Request) (responses : List Response) (new : Station)
    → Count ≡ request → CrewMeets hello old count responses new → CrewServes hello old request responses new
serves_count hello old request responses new is meets =
    let here : CrewServes hello old Count responses new = inl (record { found = None; kept = old.tokens; finds = refl; meets = meets }) in
    subst (λ (r : Request). CrewServes hello old r responses new) is here
