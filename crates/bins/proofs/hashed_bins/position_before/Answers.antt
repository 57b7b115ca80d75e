use Rattle.std.proofs.Common.{◌≡◌, ◌≢◌, ◌<◌, ℕ, List, [], true, false, length, refl, get_or, sym, ◌∙◌, arith}
use Rattle.std.proofs.lemmas.List.{get_or_default}
use Rattle.bins.proofs.HashSearch.{as_many, past, past_all}
use Rattle.bins.proofs.hashed_bins.position_before.Goals as goal

never : false ≡ true → ⊥
never e = cc

-- from the position that was looked at
pub loop-next-init : goal.loop-next-init
loop-next-init c = record {
  end = c.args.end;
  bound = omega (arith, c.requires.range, as_many _ _ _ c.requires.index);
  last = c.before-next.ensures.value;
  behind = c.requires.lacks;
}

-- the position is that of a key
pub is_at-requires : goal.is_at-requires
is_at-requires c = let last = rw c.in-Some.is at c.loop-next.invariant.last in omega (arith, last.0, c.loop-next.invariant.bound)

pub returns-then-is_at : goal.returns-then-is_at
returns-then-is_at c =
    let last = rw c.in-Some.is at c.loop-next.invariant.last in
    let inside : c.in-Some.position < length c.args.rows.now.keys = omega (arith, last.0, c.loop-next.invariant.bound) in
    record {
      bound = inside;
      found = λ d. get_or_default c.args.rows.now.keys c.in-Some.position d [] inside ∙ c.if-is_at.ensures.exact.0 refl ∙ c.as_slice.ensures.value;
      absent = tt;
    }

-- it is another key, and so are those after it
pub loop-next-preserved : goal.loop-next-preserved
loop-next-preserved c =
    let last = rw c.in-Some.is at c.loop-next.invariant.last in
    let inside : c.in-Some.position < length c.args.rows.now.keys = omega (arith, last.0, c.loop-next.invariant.bound) in
    let other : (d : List ℕ) → get_or c.args.rows.now.keys c.in-Some.position d ≢ c.args.key.now = λ d same.
    never (c.if-is_at.ensures.exact.1 (get_or_default c.args.rows.now.keys c.in-Some.position [] d inside ∙ same ∙ sym c.as_slice.ensures.value)) in
    record {
      end = c.in-Some.position;
      bound = omega (arith, inside);
      last = c.before-next-in-Some.ensures.value;
      behind = past _ _ _ c.requires.index c.args.key.now c.args.hash c.requires.hash c.loop-next.invariant.end c.in-Some.position c.loop-next.invariant.behind last other;
    }

-- no position is left
pub returns-clause-absent : goal.returns-clause-absent
returns-clause-absent c =
    let none = rw c.in_default.is at c.loop-next.invariant.last in
    past_all _ _ _ c.requires.index c.args.key.now c.args.hash c.requires.hash c.loop-next.invariant.end c.loop-next.invariant.behind none
