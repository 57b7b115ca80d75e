use Rattle.std.proofs.Common.{refl, arith, ◌∙◌}
use Rattle.std.proofs.lemmas.Int.{ints}
use Rattle.verifier.proofs.ValueLemmas.{pointer_in, number_in}
use Rattle.verifier.proofs.arithmetic.sum.Goals as goal

pub returns-in-Some-clause-near : goal.returns-in-Some-clause-near
returns-in-Some-clause-near c = λ w lo hi from to near p n.
    let x = pointer_in c.args.pointer w lo hi p in
    let y = number_in c.args.number from to n in
    let is = c.in-Some.ensures.value in
    record {
      pointer = c.in-Some.moved;
      is = refl;
      window = is.window_is ∙ x.0;
      least = omega (arith, ints, x.1.0, y.0, is.least_is);
      greatest = omega (arith, ints, x.1.1, y.1, is.greatest_is);
    }

pub returns-in-None-clause-near : goal.returns-in-None-clause-near
returns-in-None-clause-near c = λ w lo hi from to near p n.
    let x = pointer_in c.args.pointer w lo hi p in
    let y = number_in c.args.number from to n in
    absurd (let none = c.in-None.ensures.some.1 (record { above = omega (arith, ints, x.1.0, y.0, near.above); below = omega (arith, ints, x.1.1, y.1, near.below) }) in cc)
