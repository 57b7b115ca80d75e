use Rattle.bins.proofs.ChainBins.{masked_twice, bin_low, bin_high}
use Rattle.bins.proofs.index.bin_of.Goals as goal

pub returns-then-rest-bins-clause-value : goal.returns-then-rest-bins-clause-value
returns-then-rest-bins-clause-value c = bin_low c.args.half c.args.bins c.args.hash _ (masked_twice c.args.half c.args.hash c.requires.power) c.if-rest-bins.true

pub returns-else-rest-bins-clause-value : goal.returns-else-rest-bins-clause-value
returns-else-rest-bins-clause-value c = bin_high c.args.half c.args.bins c.args.hash _ (masked_twice c.args.half c.args.hash c.requires.power) c.if-rest-bins.false
