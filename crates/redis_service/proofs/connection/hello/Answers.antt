use Rattle.std.proofs.Common.{subst, sym, refl, ◌≡◌, ◌∙◌}
use Rattle.redis_commands.specs.Commands.{text}
use Rattle.redis_service.specs.declared.talk.Showing.{Showing}
use Rattle.redis_service.specs.declared.talk.Showing.TheVariants.{Right, Missing}
use Rattle.redis_service.specs.States.{TalkState, showing}
use Rattle.redis_service.specs.Connections.{AnswersHello, Greets, stranger_line}
use Rattle.redis_service.proofs.SendLemmas.{sends_of}
use Rattle.redis_service.proofs.connection.hello.Goals as goal

pub returns-in-Right-clause-answers : goal.returns-in-Right-clause-answers
returns-in-Right-clause-answers g c pass =
    let is : showing c.args.talk.now (text c.args.shown) ≡ Right = sym c.showing.ensures ∙ c.in-Right.is in
    let (w, sends, greets) = c.welcome.ensures.greets pass in (
      w,
      sends,
      subst (λ (s : Showing). AnswersHello s c.args.talk.now pass (text c.args.name) w c.welcome.new.talk pass) (sym is)
          (subst (λ (t : TalkState). Greets t pass (text c.args.name) w c.welcome.new.talk pass) c.let_in.ensures greets),
    )

pub returns-in-Missing-clause-answers : goal.returns-in-Missing-clause-answers
returns-in-Missing-clause-answers g c pass =
    let S = g.W.Sink.state in
    let is : showing c.args.talk.now (text c.args.shown) ≡ Missing = sym c.showing.ensures ∙ c.in-Missing.is in (
      stranger_line,
      sends_of c.send.result (S c.args.sink.now) (S c.send.new.sink) _ c.send.ensures.ok c.send.ensures.err,
      subst (λ (s : Showing). AnswersHello s c.args.talk.now pass (text c.args.name) stranger_line c.args.talk.now pass) (sym is) (refl, refl, refl),
    )
