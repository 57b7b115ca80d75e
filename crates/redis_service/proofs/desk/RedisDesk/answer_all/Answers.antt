use Rattle.std.proofs.Common.{rules, subst, sym, List, ℕ, Ok}
use Rattle.std.specs.Borrow.{Bor}
use Rattle.redis_commands.specs.Commands.{texts}
use Rattle.resp.specs.declared.command.Next.TheVariants.{Command}
use Rattle.key_walks.proofs.ChainLemmas.{on_err}
use Rattle.redis_service.specs.Reads.{ReadsNext}
use Rattle.redis_service.proofs.TalkLemmas.{step_command, step_nothing, step_fails}
use Rattle.redis_service.proofs.desk.RedisDesk.answer_all.Goals as goal

pub loop-reader-preserved-in-Continue-1 : goal.loop-reader-preserved-in-Continue-1
loop-reader-preserved-in-Continue-1 g c =
    let S = g.W.Sink.state in
    let rest = c.loop-reader.reader.rest.now in
    let behind = c.next.new.self.rest.now in
    let after = c.in-Ok-Command.field-0-0 in
    record {
      desk = search rules;
      map = search rules;
      passes = search rules;
      numbers = search rules;
      number = search rules;
      some = step_command c.args.moment.now.time c.args.moment.now.refuses after (S c.args.sink.now) (S c.loop-reader.sink) (S c.answer.new.sink) c.args.talk.now c.loop-reader.talk c.answer.new.talk c.args.pass.now c.loop-reader.pass c.answer.new.pass
          c.args.reader.now.rest.now rest behind (texts c.deref.result.now) c.loop-reader.invariant.some (search rules)
          (subst (λ (ws : List (Bor (List ℕ))). ReadsNext (Ok (Command after)) rest (texts ws) behind) (sym c.deref.ensures.value) (rw c.in-Ok-Command.field-0-is at c.in-Ok-Command.ensures)) c.in_ok-answer-in-Ok-Command.ensures.answers;
    }

pub loop-reader-preserved : goal.loop-reader-preserved
loop-reader-preserved g c =
    let S = g.W.Sink.state in
    record {
      desk = search rules;
      map = search rules;
      passes = search rules;
      numbers = search rules;
      number = search rules;
      some = step_nothing c.args.moment.now.time c.args.moment.now.refuses c.in-Ok-Nothing.field-0-0 (S c.args.sink.now) (S c.loop-reader.sink) c.args.talk.now c.loop-reader.talk c.args.pass.now c.loop-reader.pass
          c.args.reader.now.rest.now c.loop-reader.reader.rest.now c.next.new.self.rest.now (texts c.next.new.self.words.items) c.loop-reader.invariant.some (search rules) (rw c.in-Ok-Nothing.field-0-is at c.in-Ok-Nothing.ensures);
    }

pub returns-in_err-answer-in-Ok-Command-clause-err : goal.returns-in_err-answer-in-Ok-Command-clause-err
returns-in_err-answer-in-Ok-Command-clause-err g c =
    let S = g.W.Sink.state in
    let rest = c.loop-reader.reader.rest.now in
    let behind = c.next.new.self.rest.now in
    let after = c.in-Ok-Command.field-0-0 in
    on_err c.from_residual.result (
    step_fails c.args.moment.now.time c.args.moment.now.refuses after (S c.args.sink.now) (S c.loop-reader.sink) (S c.answer.new.sink) c.args.talk.now c.loop-reader.talk c.answer.new.talk c.args.pass.now c.loop-reader.pass c.answer.new.pass
    c.args.reader.now.rest.now rest behind (texts c.deref.result.now) c.loop-reader.invariant.some
    (subst (λ (ws : List (Bor (List ℕ))). ReadsNext (Ok (Command after)) rest (texts ws) behind) (sym c.deref.ensures.value) (rw c.in-Ok-Command.field-0-is at c.in-Ok-Command.ensures)) c.in_err-answer-in-Ok-Command.ensures.answers
    )
