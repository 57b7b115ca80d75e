use Rattle.std.proofs.Common.{◌≡◌, ℕ, ap, sym, refl, subst, List, [], ◌∷◌, MatchResult, Option, Some, is_some, inl, option_copied}
use Rattle.bin_stripes.specs.Passes.{stripes_of}
use Rattle.bulk_walks.specs.Walks.{ReplacesAll}
use Rattle.client_protocol.specs.Responses.{response_of}
use Rattle.sessions.specs.Asking.{replacement}
use Rattle.crews.specs.Stations.{KeptTokens, tokens_of, Station}
use Rattle.crews.specs.Steps.{Finds, AsksWithProgram, keeping}
use Rattle.crews.proofs.StepLemmas.{walked_by_team}
use Rattle.crews.proofs.TokenLemmas.{walk_not_found}
use Rattle.crews.proofs.serving.Serving.replace_all.Goals as goal

pub returns-in-Err : goal.returns-in-Err
returns-in-Err g c hello bytes =
    let s = c.self.inside in
    let here : Station = record { pass = s.pass; team = s.team.items; tokens = tokens_of s.registry.now s.tokens.items; is_strict = is_some s.strict } in
    let kept = tokens_of s.registry.now c.program_of.new.tokens.items in
    let responses = response_of c.in-Err.response ∷ [] in
    subst (λ (old : Station). AsksWithProgram hello old c.args.number (λ program. replacement program (option_copied c.args.arg)) responses (keeping here kept)) c.self.view_is
    (walk_not_found hello here c.args.number (λ program. replacement program (option_copied c.args.arg)) (response_of c.in-Err.response) responses kept refl c.in-Err.ensures.err)

pub returns : goal.returns
returns g c hello bytes =
    let s = c.self.inside in
    let kept = tokens_of s.registry.now c.program_of.new.tokens.items in
    let walked = subst (λ (arg : Option (List ℕ)). MatchResult c.replace_all-team.result.1 (λ reply. ReplacesAll (stripes_of s.map.now) c.in-Ok.program.now arg c.told-team.result.passes.items c.replace_all-team.result.0.passes.items reply) (λ _. c.replace_all-team.result.0.passes.items ≡ c.told-team.result.passes.items))
    c.argument_of-arg.ensures c.replace_all-team.ensures.walked in
    inl (record {
      found = Some c.in-Ok.program.now;
      kept = kept;
      finds = subst (λ (ts : KeptTokens). Finds ts c.args.number (Some c.in-Ok.program.now) kept) (ap (λ (t : Station). t.tokens) c.self.view_is) c.in-Ok.ensures.ok;
      meets = walked_by_team (λ n before after reply. ReplacesAll n c.in-Ok.program.now (option_copied c.args.arg) before after reply) (λ n before after. after ≡ before)
          (keeping c.args.self.now kept) s.pass s.team.items kept (is_some s.strict) s.map.now c.replace-team.result.items c.told-team.result.passes.items c.replace_all-team.result.0.passes.items c.heard.result.items
          c.heard.new.pass c.replace_all-team.result.1 _ (sym (ap (λ (t : Station). keeping t kept) c.self.view_is)) c.self.invariant.0 (ap (λ v. v.items) c.replace-team.ensures.value) (ap (λ v. v.items) c.heard.ensures.passes)
          c.told-team.ensures.told walked c.heard.ensures.heard c.replace_all-team.ensures.map (c.answer_of.ensures bytes);
    })
