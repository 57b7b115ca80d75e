use Rattle.std.proofs.Common.{◌≡◌, ◌-◌, ◌<◌, leb, ltb, ◌&&◌, count_by, refl, arith, subst}
use Rattle.key_walks.proofs.PageLemmas.{none_between}
use Rattle.key_walks.proofs.pages.end_of.Goals as goal

pub loop-low-init : goal.loop-low-init
loop-low-init c = record {
  after = omega arith;
  apart = c.requires.some;
  inside = omega arith;
  few = let none = none_between c.args.from c.args.places.now in omega (arith, none, c.requires.most);
  enough = λ _. refl;
}

pub returns-clause-few : goal.returns-clause-few
returns-clause-few c =
    let at : c.loop-low.low ≡ c.loop-low.high - 1 = omega (arith, c.loop-low-test.false, c.loop-low.invariant.apart) in
    subst (λ m. count_by (λ place. leb c.args.from place && ltb place m) c.args.places.now < c.args.most) at c.loop-low.invariant.few
