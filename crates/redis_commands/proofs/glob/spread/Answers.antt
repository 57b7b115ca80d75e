use Rattle.std.proofs.Common.{arith}
use Rattle.redis_commands.proofs.PlaceLemmas.{spread_step, spread_end}
use Rattle.redis_commands.proofs.glob.spread.Goals as goal

pub loop-i-preserved : goal.loop-i-preserved
loop-i-preserved c =
    spread_step c.loop-i.places c.loop-i.i c.loop-i.reached _ (omega (arith, c.loop-i-test.true, c.loop-i.auto.places)) c.loop-i.invariant

pub returns-clause-value : goal.returns-clause-value
returns-clause-value c = spread_end c.loop-i.places c.loop-i.i c.loop-i.reached _ (omega (arith, c.loop-i-test.false, c.loop-i.auto.places)) c.loop-i.invariant
