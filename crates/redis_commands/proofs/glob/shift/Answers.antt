use Rattle.std.proofs.Common.{arith, ◌∙◌}
use Rattle.std.proofs.lemmas.List.{length-set}
use Rattle.redis_commands.specs.Places.{piece_by}
use Rattle.redis_commands.proofs.PlaceLemmas.{shift_step, shift_end}
use Rattle.redis_commands.proofs.glob.shift.Goals as goal

pub loop-i-preserved : goal.loop-i-preserved
loop-i-preserved c = (
  shift_step (piece_by c.args.piece.now) c.loop-i.places c.loop-i.i c.loop-i.carried c.carries-carried.result c.loop-i.left.now c.tail-left.result.now _
      (omega (arith, c.loop-i-test.true, c.loop-i.auto.places)) c.carries-carried.ensures c.tail-left.ensures c.loop-i.invariant.0,
  length-set c.loop-i.places c.loop-i.i c.loop-i.carried ∙ c.loop-i.invariant.1,
)

pub returns-clause-value : goal.returns-clause-value
returns-clause-value c =
    shift_end (piece_by c.args.piece.now) c.loop-i.places c.loop-i.i c.loop-i.carried c.loop-i.left.now _
    (omega (arith, c.loop-i-test.false, c.loop-i.auto.places)) c.loop-i.invariant.0
