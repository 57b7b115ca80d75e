use Rattle.std.proofs.Common.{arith, sym, ◌∙◌}
use Rattle.std.proofs.lemmas.Int.{ints}
use Rattle.value_ranges.proofs.MoveLemmas.{extended_small, extended_below, extended_within}
use Rattle.value_ranges.proofs.moves.extend_low.Goals as goal

pub returns-then-a-from : goal.returns-then-a-from
returns-then-a-from c = λ x p. rw (extended_small c.args.extension x (omega (arith, c.sign_bit-half.ensures.value))) p

pub returns-in-W32 : goal.returns-in-W32
returns-in-W32 c = λ x p. c.any.ensures _ (extended_below c.args.extension _ x (sym c.width.ensures ∙ c.in-W32.is))

pub returns-in-W64 : goal.returns-in-W64
returns-in-W64 c = λ x p.
    c.signed.ensures.holds _ (extended_within c.args.extension x _ _ (sym c.width.ensures ∙ c.in-W64.is) (omega (arith, ints, c.sign_bit-half.ensures)) (omega (arith, ints, c.sign_bit-half.ensures)))
