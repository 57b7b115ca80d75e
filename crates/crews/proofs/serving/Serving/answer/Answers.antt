use Rattle.std.proofs.Common.{sym, ap, refl, ◌∙◌, [], ◌∷◌, option_copied}
use Rattle.client_protocol.specs.Requests.{viewed}
use Rattle.client_protocol.specs.Responses.{response_of}
use Rattle.client_protocol.specs.declared.response.Response.TheVariants as tell
use Rattle.crews.proofs.TokenLemmas.{serves_hello, serves_register, serves_search, serves_for_each, serves_replacement, serves_count}
use Rattle.crews.proofs.serving.Serving.answer.Goals as goal

pub returns-in-Hello : goal.returns-in-Hello
returns-in-Hello g c =
    serves_hello c.args.hello c.args.self.now c.args.request.now c.in-Hello.version (tell.Hello c.in-Hello.version ∷ []) c.args.self.now
    (sym (ap viewed c.in-Hello.is) ∙ c.view.ensures) (refl, refl)

pub returns-in-Register : goal.returns-in-Register
returns-in-Register g c =
    serves_register c.args.hello c.args.self.now c.args.request.now c.in-Register.sizes c.in-Register.program.now (response_of c.register.result ∷ []) c.register.new.self
    (sym (ap viewed c.in-Register.is) ∙ c.view.ensures) c.register.ensures

pub returns-in-Search : goal.returns-in-Search
returns-in-Search g c =
    serves_search c.args.hello c.args.self.now c.args.request.now c.in-Search.program (option_copied c.in-Search.arg) c.in-Search.threshold _ c.walk_by_team.new.self
    (sym (ap viewed c.in-Search.is) ∙ c.view.ensures) (c.walk_by_team.ensures c.args.hello c.args.value.now)

pub returns-in-ForEach : goal.returns-in-ForEach
returns-in-ForEach g c =
    serves_for_each c.args.hello c.args.self.now c.args.request.now c.in-ForEach.program (option_copied c.in-ForEach.arg) c.in-ForEach.threshold _ c.walk_by_team-in-ForEach.new.self
    (sym (ap viewed c.in-ForEach.is) ∙ c.view.ensures) (c.walk_by_team-in-ForEach.ensures c.args.hello c.args.value.now)

pub returns-in-ReplaceAll : goal.returns-in-ReplaceAll
returns-in-ReplaceAll g c =
    serves_replacement c.args.hello c.args.self.now c.args.request.now c.in-ReplaceAll.program (option_copied c.in-ReplaceAll.arg) _ c.replace_all.new.self
    (sym (ap viewed c.in-ReplaceAll.is) ∙ c.view.ensures) (c.replace_all.ensures c.args.hello c.args.value.now)

pub returns-in-Count : goal.returns-in-Count
returns-in-Count g c =
    serves_count c.args.hello c.args.self.now c.args.request.now _ c.count.new.self
    (sym (ap viewed c.in-Count.is) ∙ c.view.ensures) (c.count.ensures c.args.hello c.args.value.now)
