use Rattle.std.proofs.Common.{arith}
use Rattle.std.proofs.lemmas.Int.{ints, clamps}
use Rattle.value_ranges.proofs.unions.join.Goals as goal

pub returns-clause-signed : goal.returns-clause-signed
returns-clause-signed c = (omega (arith, ints, clamps), omega (arith, ints, clamps))
