use Rattle.bins.proofs.HashesLemmas.{four_more}
use Rattle.bins.proofs.hashes.with_four.Goals as goal

pub returns : goal.returns
returns c = rw (c.from.ensures, c.from-2.ensures, c.from-3.ensures, c.from-4.ensures) (four_more c.args.hash c.args.a c.args.b c.args.c c.args.d)
