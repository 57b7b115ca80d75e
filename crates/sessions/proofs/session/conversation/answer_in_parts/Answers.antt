use Rattle.std.proofs.lemmas.Result.{err_from_is_err_and}
use Rattle.sessions.proofs.PartLemmas.{AnsweredSoFar, none_so_far, sent_more, part_answered, part_broken}
use Rattle.sessions.proofs.session.conversation.answer_in_parts.Goals as goal
use Rattle.sessions.proofs.session.conversation.answer_in_parts.Goals.{then-is_walk, else-is_walk}

pub loop-rest-init : goal.loop-rest-init
loop-rest-init g c =
    none_so_far g.S.Service.answers (g.C.Channel.state c.args.channel.now) c.args.owed.now c.args.came.hello c.args.state.now c.args.came.requests.now

pub returns-in_err-hello-clause-err : goal.returns-in_err-hello-clause-err
returns-in_err-hello-clause-err g c =
    let p = err_from_is_err_and c.from_residual.result c.from_residual.ensures.1 in
    let answers = g.S.Service.answers in
    let state = g.C.Channel.state in
    let start = state c.args.channel.now in
    let owed = c.args.owed.now in
    let came = c.args.came in
    let l = c.loop-rest in
    let rest = l.rest.requests.now in
    let here : AnsweredSoFar answers start (state c.if-is_walk.channel) owed c.if-is_walk.owed came.hello l.rest.hello c.args.state.now l.state came.requests.now rest = elim c.if-is_walk.branch [
      | then-is_walk w ↦ rw w.owed-is (rw w.channel-is (sent_more answers start (state l.channel) (state w.send_to.new.channel) owed l.owed w.send_to.new.self came.hello l.rest.hello c.args.state.now l.state came.requests.now rest w.send_to.ensures.taken w.send_to.ensures.failures l.invariant))
      | else-is_walk w ↦ rw w.owed-is (rw w.channel-is l.invariant)
    ] in
    rw p.1
    (part_broken answers start (state c.if-is_walk.channel) owed c.if-is_walk.owed c.answer_all.new.sink came.hello l.rest.hello c.args.state.now l.state c.answer_all.new.state came.requests.now rest c.split_at.result.0.now c.split_at.result.1.now
    c.split_at.ensures.by_index.0
    c.in_err-hello.ensures.err here)

pub loop-rest-preserved : goal.loop-rest-preserved
loop-rest-preserved g c =
    let answers = g.S.Service.answers in
    let state = g.C.Channel.state in
    let start = state c.args.channel.now in
    let owed = c.args.owed.now in
    let came = c.args.came in
    let l = c.loop-rest in
    let rest = l.rest.requests.now in
    let here : AnsweredSoFar answers start (state c.if-is_walk.channel) owed c.if-is_walk.owed came.hello l.rest.hello c.args.state.now l.state came.requests.now rest = elim c.if-is_walk.branch [
      | then-is_walk w ↦ rw w.owed-is (rw w.channel-is (sent_more answers start (state l.channel) (state w.send_to.new.channel) owed l.owed w.send_to.new.self came.hello l.rest.hello c.args.state.now l.state came.requests.now rest w.send_to.ensures.taken w.send_to.ensures.failures l.invariant))
      | else-is_walk w ↦ rw w.owed-is (rw w.channel-is l.invariant)
    ] in
    part_answered answers start (state c.if-is_walk.channel) owed c.if-is_walk.owed c.answer_all.new.sink came.hello l.rest.hello c.in_ok-hello.hello c.args.state.now l.state c.answer_all.new.state came.requests.now rest c.split_at.result.0.now c.split_at.result.1.now
    c.split_at.ensures.by_index.0
    c.in_ok-hello.ensures.hello c.in_ok-hello.ensures.ok here
