use Rattle.std.proofs.Common.{sym, ap, subst, ◌∙◌}
use Rattle.client_protocol.specs.Requests.{Request, viewed}
use Rattle.sessions.specs.Answering.{responses_of}
use Rattle.sessions.specs.Requests.{Serves}
use Rattle.sessions.proofs.alone.Alone.answer.Goals as goal

pub returns-in-Count : goal.returns-in-Count
returns-in-Count c =
    subst (λ (request : Request). Serves c.args.hello c.args.self.now request (responses_of c.count.result c.args.value.now) c.args.self.now)
    (sym (ap viewed c.in-Count.is) ∙ c.view.ensures) (c.count.ensures c.args.hello c.args.value.now)
