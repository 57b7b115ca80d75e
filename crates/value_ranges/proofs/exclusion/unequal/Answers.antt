use Rattle.std.proofs.Common.{sym, ◌∙◌}
use Rattle.value_ranges.proofs.exclusion.unequal.Goals as goal
use Rattle.value_ranges.proofs.exclusion.unequal.Goals.{in-Some, in-None}

pub returns : goal.returns
returns c = λ x y p q ne. c.pair.ensures x y
    (elim c.match-single_value.branch [
      | in-Some w ↦ rw w.first-is (w.without-first.ensures x p (λ e. ne (e ∙ sym (w.in-Some.ensures.only y q))))
      | in-None w ↦ rw w.first-is (w.tighten-first.ensures x (w.of.ensures x p))
    ])
    (c.tighten.ensures y (c.of-2.ensures y q))
