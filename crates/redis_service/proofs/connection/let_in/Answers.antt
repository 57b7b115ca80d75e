use Rattle.std.proofs.Common.{subst, sym, refl, Some, ◌≡◌, ◌∙◌}
use Rattle.redis_service.specs.declared.talk.Showing.{Showing}
use Rattle.redis_service.specs.declared.talk.Showing.TheVariants.{Right}
use Rattle.redis_service.specs.States.{showing}
use Rattle.redis_service.specs.Connections.{LetsIn}
use Rattle.redis_service.specs.Texts.{ok_line}
use Rattle.redis_service.proofs.SendLemmas.{sends_of}
use Rattle.redis_service.proofs.connection.let_in.Goals as goal

pub returns-in-Right-clause-answers : goal.returns-in-Right-clause-answers
returns-in-Right-clause-answers g c pass =
    let S = g.W.Sink.state in
    let is : showing c.args.talk.now (Some c.args.shown.now) ≡ Right = sym c.showing.ensures ∙ c.in-Right.is in (
      ok_line,
      sends_of c.send.result (S c.args.sink.now) (S c.send.new.sink) _ c.send.ensures.ok c.send.ensures.err,
      subst (λ (s : Showing). LetsIn s c.args.talk.now pass ok_line c.let_in.new.self pass) (sym is) (refl, c.let_in.ensures, refl),
    )
