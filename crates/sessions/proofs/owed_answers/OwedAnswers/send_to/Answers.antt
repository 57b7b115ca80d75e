use Rattle.std.proofs.Common.{◌∙◌}
use Rattle.devices.proofs.ChannelLemmas.{takes_both}
use Rattle.sessions.proofs.owed_answers.OwedAnswers.send_to.Goals as goal

pub returns-then-ne-clause-taken : goal.returns-then-ne-clause-taken
returns-then-ne-clause-taken g c =
    takes_both (g.C.Channel.state c.args.channel.now) (g.C.Channel.state c.loop.channel) (g.C.Channel.state c.send_front-taking.new.channel)
    c.args.self.now.rest c.loop.self.rest c.send_front-taking.new.self.rest c.loop.invariant.0 c.send_front-taking.ensures.taken

pub returns-in_default-clause-taken : goal.returns-in_default-clause-taken
returns-in_default-clause-taken g c =
    rw c.go_on.ensures
    (takes_both (g.C.Channel.state c.args.channel.now) (g.C.Channel.state c.loop.channel) (g.C.Channel.state c.send_front-taking.new.channel)
    c.args.self.now.rest c.loop.self.rest c.send_front-taking.new.self.rest c.loop.invariant.0 c.send_front-taking.ensures.taken)

pub loop-preserved : goal.loop-preserved
loop-preserved g c =
    rw c.go_on.ensures (
      takes_both (g.C.Channel.state c.args.channel.now) (g.C.Channel.state c.loop.channel) (g.C.Channel.state c.send_front-taking.new.channel)
          c.args.self.now.rest c.loop.self.rest c.send_front-taking.new.self.rest c.loop.invariant.0 c.send_front-taking.ensures.taken,
      c.send_front-taking.ensures.failures ∙ c.loop.invariant.1,
    )
