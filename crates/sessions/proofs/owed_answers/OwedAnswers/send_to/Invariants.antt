-- what is gone was taken
use Rattle.std.proofs.Common.{◌≡◌}
use Rattle.devices.specs.Channels.{TakesOwed}
use Rattle.sessions.proofs.owed_answers.OwedAnswers.send_to.Given as goal

abbrev pub invariant-loop : goal.invariant-loop
invariant-loop g l =
    TakesOwed (g.C.Channel.state l.fn.channel) (g.C.Channel.state l.channel) l.fn.self.rest l.self.rest × (l.self.failures ≡ l.fn.self.failures)
