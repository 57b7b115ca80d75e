use Rattle.std.proofs.Common.{subst, sym, refl, ap, Option, Some, None, List, ℕ, ◌≡◌, ◌∙◌}
use Rattle.server_state.specs.Passwords.{lent}
use Rattle.redis_service.specs.States.{TalkState}
use Rattle.redis_service.specs.Connections.{LetsInBy, no_password_line}
use Rattle.redis_service.proofs.SendLemmas.{sends_of}
use Rattle.redis_service.proofs.connection.let_in_by.Goals as goal

pub returns-in-None-clause-answers : goal.returns-in-None-clause-answers
returns-in-None-clause-answers g c pass =
    let S = g.W.Sink.state in
    let none : c.args.talk.now.password ≡ None = sym (ap (λ (t : TalkState). t.password) c.talk.view_is) ∙ ap lent c.in-None.is in (
      no_password_line,
      sends_of c.send.result (S c.args.sink.now) (S c.send.new.sink) _ c.send.ensures.ok c.send.ensures.err,
      subst (λ (p : Option (List ℕ)). LetsInBy p c.args.talk.now pass c.args.shown.now no_password_line c.args.talk.now pass) (sym none) (refl, refl, refl),
    )

pub returns-in-Some-clause-answers : goal.returns-in-Some-clause-answers
returns-in-Some-clause-answers g c pass =
    let some : c.args.talk.now.password ≡ Some c.in-Some.field-0.now = sym (ap (λ (t : TalkState). t.password) c.talk.view_is) ∙ ap lent c.in-Some.is in
    let (w, sends, lets) = c.let_in.ensures.answers pass in
    (w, sends, subst (λ (p : Option (List ℕ)). LetsInBy p c.args.talk.now pass c.args.shown.now w c.let_in.new.talk pass) (sym some) lets)
