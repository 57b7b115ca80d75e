use Rattle.std.proofs.Common.{ℕ, ◌+◌, ◌<◌, inl, inr, length, get_or, set, length-set, sym, subst, ◌∙◌, arith}
use Rattle.std.proofs.lemmas.Bool.{cases_eq}
use Rattle.std.proofs.lemmas.List.{get_or-set_same, get_or-set_other, get_or_default}
use Rattle.std.specs.Fork.{ChangesAt}
use Rattle.workers.proofs.apart.in_turn.Goals as goal

pub loop-k-preserved : goal.loop-k-preserved
loop-k-preserved g c =
    let k = c.loop-k.k in
    let xs = c.args.s.now in
    let ys = c.loop-k.s in
    let y = c.at_one.new.it in
    let before = c.loop-k.invariant in
    let R : ℕ → g.row.T.Denot → g.row.T.Denot → Type 0 = λ j. ChangesAt g.F.Fn c.args.f.now (c.args.base + j) in
    let inside : k < length ys = omega (arith, before.len, c.loop-k-test.true) in
    record {
      len = length-set ys k y ∙ before.len;
      others = λ j d low. get_or-set_other ys k j y d (λ e. omega (arith, e, low)) ∙ before.others j d (omega (arith, low));
      changed = λ j d low. elim (cases_eq j k) [
        | inl e ↦ subst (λ i. R i (get_or xs i d) (get_or (set ys k y) i d)) (sym e)
            (subst (R k (get_or xs k d)) (sym (get_or-set_same ys k y d inside))
            (subst (λ x. R k x y) (get_or_default ys k _ d inside ∙ before.others k d (omega arith)) c.at_one.ensures))
        | inr ne ↦ subst (R j (get_or xs j d)) (sym (get_or-set_other ys k j y d ne)) (before.changed j d (omega (arith, low, ne)))
      ];
    }
