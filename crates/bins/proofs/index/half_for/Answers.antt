use Rattle.std.proofs.Common.{sym, subst, arith}
use Rattle.std.specs.Int.{IsPowerOfTwo}
use Rattle.bins.proofs.ChainBins.{bin_doubled, twice_power}
use Rattle.bins.proofs.index.half_for.Goals as goal

pub returns-then-bins-half-clause-spread : goal.returns-then-bins-half-clause-spread
returns-then-bins-half-clause-spread c = record {
  power = subst IsPowerOfTwo (sym c.if-bins-half.true) (twice_power c.args.half c.requires.spread.power);
  some = omega (arith, c.requires.spread.some, c.if-bins-half.true);
  least = omega arith;
  most = omega arith;
  bounded = omega (arith, c.requires.few);
}

pub returns-then-bins-half-clause-same : goal.returns-then-bins-half-clause-same
returns-then-bins-half-clause-same c = λ hash. sym (bin_doubled c.args.half c.args.bins hash c.requires.spread.power (omega (arith, c.requires.spread.some)) c.if-bins-half.true)
