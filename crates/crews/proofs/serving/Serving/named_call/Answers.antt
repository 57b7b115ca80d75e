use Rattle.std.proofs.Common.{◌≡◌, ap, refl, subst, [], ◌∷◌, Some, is_some}
use Rattle.client_protocol.specs.Responses.{response_of}
use Rattle.sessions.specs.Answering.{responses_of}
use Rattle.sessions.specs.Asking.{asked, named}
use Rattle.crews.specs.Stations.{KeptTokens, tokens_of, Station}
use Rattle.crews.specs.Steps.{Finds, CrewMeets, CrewServes, keeping}
use Rattle.crews.proofs.TokenLemmas.{names_one, names_none, names_not_found}
use Rattle.crews.proofs.serving.Serving.named_call.Goals as goal

pub returns-in_default : goal.returns-in_default
returns-in_default g c hello =
    names_none hello c.args.self.now c.args.request.now _ c.call.new.self c.requires (let a = c.named_program.ensures in let b = c.in_default.is in cc) (c.call.ensures hello)

pub returns-in-Ok : goal.returns-in-Ok
returns-in-Ok g c hello =
    let s = c.self.inside in
    let kept = tokens_of s.registry.now c.program_of.new.tokens.items in
    let found = Some c.in-Ok.program.now in
    let is : named c.args.request.now ≡ Some c.in-Some.number = let a = c.named_program.ensures in let b = c.in-Some.is in cc in
    let finds : Finds c.args.self.now.tokens c.in-Some.number found kept =
    subst (λ (ts : KeptTokens). Finds ts c.in-Some.number found kept) (ap (λ (t : Station). t.tokens) c.self.view_is) c.in-Ok.ensures.ok in
    let responses = responses_of c.call-in-Ok.result c.call-in-Ok.new.value in
    names_one hello c.args.self.now c.args.request.now c.in-Some.number found kept responses c.call-in-Ok.new.self c.requires is finds
    (subst (λ (old : Station). CrewMeets hello (keeping old kept) (asked (λ _. found) c.args.request.now) responses c.call-in-Ok.new.self) c.self.view_is (c.call-in-Ok.ensures hello))

pub returns-in-Err : goal.returns-in-Err
returns-in-Err g c hello =
    let s = c.self.inside in
    let here : Station = record { pass = s.pass; team = s.team.items; tokens = tokens_of s.registry.now s.tokens.items; is_strict = is_some s.strict } in
    let kept = tokens_of s.registry.now c.program_of.new.tokens.items in
    let responses = response_of c.in-Err.response ∷ [] in
    let is : named c.args.request.now ≡ Some c.in-Some.number = let a = c.named_program.ensures in let b = c.in-Some.is in cc in
    subst (λ (old : Station). CrewServes hello old c.args.request.now responses (keeping here kept)) c.self.view_is
    (names_not_found hello here c.args.request.now c.in-Some.number (response_of c.in-Err.response) responses kept c.requires is refl c.in-Err.ensures.err)
