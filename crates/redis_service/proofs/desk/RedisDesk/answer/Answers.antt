use Rattle.std.proofs.Common.{sym, ◌∙◌, Err}
use Rattle.redis_commands.specs.Commands.{asked_by, fault_by, texts}
use Rattle.redis_service.specs.Changing.{not_kept_line}
use Rattle.redis_service.specs.Commands.{read_of}
use Rattle.redis_service.specs.States.{is_authenticated}
use Rattle.redis_service.proofs.GuardLemmas.{command_guards, refused_guards}
use Rattle.redis_service.proofs.RefusedLemmas.{command_refused, command_answered, fault_told}
use Rattle.redis_service.proofs.SendLemmas.{sends_of}
use Rattle.redis_service.proofs.desk.RedisDesk.answer.Goals as goal

pub returns-then-is_refused-clause-answers : goal.returns-then-is_refused-clause-answers
returns-then-is_refused-clause-answers g c =
    let now = c.args.moment.now.time in
    let talk = c.args.talk.now in (
      not_kept_line,
      sends_of c.put_error.result (g.W.Sink.state c.args.sink.now) (g.W.Sink.state c.put_error.new.sink) not_kept_line c.put_error.ensures.ok c.put_error.ensures.err,
      command_refused now c.args.moment.now.refuses talk c.args.pass.now (asked_by c.in-Ok.command) (read_of now (is_authenticated talk) (texts c.args.words.now))
          c.in-Ok.ensures.asked (sym c.is_refused.ensures ∙ c.if-is_refused.true),
    )

pub returns-else-is_refused-clause-answers : goal.returns-else-is_refused-clause-answers
returns-else-is_refused-clause-answers g c =
    let now = c.args.moment.now.time in
    let talk = c.args.talk.now in
    let old = c.args.pass.now in
    let next = c.answer_command-sent.new.talk in
    let new = c.answer_command-sent.new.pass in
    let (w, sends, answers) = c.answer_command-sent.ensures.answers in (
      w,
      sends,
      command_answered now c.args.moment.now.refuses talk next old new (asked_by c.in-Ok.command) (read_of now (is_authenticated talk) (texts c.args.words.now)) w
          c.in-Ok.ensures.asked (sym c.is_refused.ensures ∙ c.if-is_refused.false) answers
          (command_guards now talk next old new (asked_by c.in-Ok.command) w c.in-Ok.ensures.open answers),
    )

pub returns-in-Err-clause-answers : goal.returns-in-Err-clause-answers
returns-in-Err-clause-answers g c =
    let now = c.args.moment.now.time in
    let talk = c.args.talk.now in
    let old = c.args.pass.now in
    let next = c.refuse.new.talk in
    let (w, sends, answers) = c.refuse.ensures.answers now old in (
      w,
      sends,
      fault_told now c.args.moment.now.refuses talk next old old (fault_by c.in-Err.fault) (read_of now (is_authenticated talk) (texts c.args.words.now)) w
          c.in-Err.ensures.asked answers (refused_guards talk next old (Err (fault_by c.in-Err.fault)) c.refuse.ensures.locked),
    )
