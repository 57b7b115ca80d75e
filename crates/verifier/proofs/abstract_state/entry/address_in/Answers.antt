use Rattle.std.proofs.Common.{refl, arith, rules, SFits}
use Rattle.std.specs.Int.{w64}
use Rattle.std.proofs.lemmas.Int.{ints, to_z-of_z}
use Rattle.verifier.proofs.abstract_state.entry.address_in.Goals as goal

pub returns-clause-exact : goal.returns-clause-exact
returns-clause-exact c =
    let fits : SFits w64 c.from-offset.result = search rules in
    let same = to_z-of_z w64 c.from-offset.result fits in
    record {
      pointer = _;
      is = refl;
      window = refl;
      least = omega (arith, ints, same, c.from-offset.ensures);
      greatest = omega (arith, ints, same, c.from-offset.ensures);
    }
