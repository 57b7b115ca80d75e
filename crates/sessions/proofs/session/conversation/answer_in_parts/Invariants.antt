-- the requests before those that are left are answered, and what is owed for them is sent or left
use Rattle.std.proofs.Common.{length}
use Rattle.sessions.proofs.PartLemmas.{AnsweredSoFar}
use Rattle.sessions.proofs.session.conversation.answer_in_parts.Given as goal

abbrev pub invariant-loop-rest : goal.invariant-loop-rest
invariant-loop-rest g l =
    AnsweredSoFar g.S.Service.answers (g.C.Channel.state l.fn.channel) (g.C.Channel.state l.channel) l.fn.owed l.owed l.fn.came.hello l.rest.hello l.fn.state l.state l.fn.came.requests.now l.rest.requests.now

abbrev pub decreases-loop-rest : goal.decreases-loop-rest
decreases-loop-rest g l = length l.rest.requests.now
