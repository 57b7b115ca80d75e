use Rattle.value_ranges.proofs.comparisons.both.Goals as goal

pub returns : goal.returns
returns c = λ x y p q. c.pair.ensures x y (c.tighten.ensures x p) (c.tighten-2.ensures y q)
