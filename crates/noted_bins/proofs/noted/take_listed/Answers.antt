use Rattle.std.proofs.Common.{length, ap, sym, ◌∙◌, arith}
use Rattle.noted_bins.proofs.HandLemmas.{handed_more, longer_by_one}
use Rattle.noted_bins.proofs.noted.take_listed.Goals as goal

-- one more row was handed out
pub loop-handed-preserved : goal.loop-handed-preserved
loop-handed-preserved g c = (
  handed_more _ _ _ _ _ _ _ _ c.loop-handed.invariant.0 c.in-Some.ensures c.in_default-add.ensures.ok c.drop_last.ensures.all c.drop_last.ensures.filter c.drop_last.ensures.keys,
  let one = longer_by_one _ _ _ c.in_default-add.ensures.ok in let many = c.loop-handed.invariant.1 in omega (arith, one, many),
  λ none. absurd (omega (arith, none)),
)

-- if no row was added, none was handed out
pub returns-in_default-clause-still : goal.returns-in_default-clause-still
returns-in_default-clause-still g c = λ same. (c.loop-handed.invariant.2 (let none = ap length same in let many = c.loop-handed.invariant.1 in omega (arith, none, many))).1

pub returns-else-handed-eq0-clause-still : goal.returns-else-handed-eq0-clause-still
returns-else-handed-eq0-clause-still g c = λ same. (c.loop-handed.invariant.2 (let none = ap length (sym c.in-Err.ensures.err ∙ same) in let many = c.loop-handed.invariant.1 in omega (arith, none, many))).1

pub returns-clause-still : goal.returns-clause-still
returns-clause-still g c = λ same. (c.loop-handed.invariant.2 (let none = ap length same in let many = c.loop-handed.invariant.1 in omega (arith, none, many))).1
