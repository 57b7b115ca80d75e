-- the requests so far are answered
use Rattle.std.proofs.Common.{◌≡◌, ℕ, List, take}
use Rattle.sessions.specs.Answering.{hello_behind, Answered}
use Rattle.devices.specs.Devices.{TakesBytes}
use Rattle.sessions.proofs.session.conversation.answer_all.Given as goal

abbrev pub invariant-loop-request : goal.invariant-loop-request
invariant-loop-request g l =
    (l.hello ≡ hello_behind l.fn.came.hello (take l.request-index l.fn.came.requests.now)) × ((written : List ℕ) × TakesBytes (g.W.Sink.state l.fn.sink) (g.W.Sink.state l.sink) written
    × Answered g.S.Service.answers l.fn.came.hello l.fn.state (take l.request-index l.fn.came.requests.now) written l.state)
