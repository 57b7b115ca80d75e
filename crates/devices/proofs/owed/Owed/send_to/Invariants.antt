-- the bytes that are gone were taken
use Rattle.std.proofs.Common.{length}
use Rattle.devices.specs.Channels.{TakesOwed}
use Rattle.devices.proofs.owed.Owed.send_to.Given as goal

abbrev pub invariant-loop-self : goal.invariant-loop-self
invariant-loop-self g l = TakesOwed (g.C.Channel.state l.fn.channel) (g.C.Channel.state l.channel) l.fn.self l.self

abbrev pub decreases-loop-self : goal.decreases-loop-self
decreases-loop-self g l = length l.self
