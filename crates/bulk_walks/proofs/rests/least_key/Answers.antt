use Rattle.std.proofs.Common.{◌≡◌, List, inl, inr, false, get_or, sym, ap, ◌∙◌, subst, arith}
use Rattle.std.proofs.lemmas.Bool.{cases_eq}
use Rattle.std.proofs.lemmas.List.{get_or-map}
use Rattle.bins.specs.Table.{Entry}
use Rattle.bulk_walks.specs.Merges.{comes_first, left_of, lefts_of}
use Rattle.bulk_walks.proofs.MergeLemmas.{comes_first-itself, comes_first-one_way, comes_first-chain}
use Rattle.bulk_walks.proofs.rests.least_key.Goals as goal
use Rattle.bulk_walks.proofs.rests.least_key.Goals.{then-is_first, else-is_first}

pub loop-other-init : goal.loop-other-init
loop-other-init c = record {
  inside = c.requires;
  least = λ i d low. let zero : i ≡ 0 = omega (arith, low) in subst (λ k. comes_first (get_or (lefts_of c.args.rests.now) k d) (get_or (lefts_of c.args.rests.now) 0 d) ≡ false) (sym zero) (comes_first-itself (get_or (lefts_of c.args.rests.now) 0 d));
}

-- the other list comes before the least so far, or it does not
pub loop-other-preserved : goal.loop-other-preserved
loop-other-preserved c =
    let before = c.loop-other.invariant in
    let rests = lefts_of c.args.rests.now in
    let other = c.loop-other.other in
    let position = c.loop-other.position in
    let test : (d : List Entry) → c.is_first.result ≡ comes_first (get_or rests other d) (get_or rests position d) = λ d.
    c.is_first.ensures
    ∙ ap (λ (one : List Entry). comes_first one (left_of c.index-rests-position.result)) (ap left_of c.index-rests-other.is ∙ sym (get_or-map left_of c.args.rests.now other _ d (omega (arith, c.loop-other-test.true))))
    ∙ ap (λ (two : List Entry). comes_first (get_or rests other d) two) (ap left_of c.index-rests-position.is ∙ sym (get_or-map left_of c.args.rests.now position _ d before.inside)) in
    elim c.if-is_first.branch [
      | then-is_first w ↦ rw w.position-is (record {
        inside = omega arith;
        least = λ i d low. elim (cases_eq i other) [
          | inl e ↦ subst (λ k. comes_first (get_or rests k d) (get_or rests other d) ≡ false) (sym e) (comes_first-itself (get_or rests other d))
          | inr ne ↦ comes_first-chain (get_or rests i d) (get_or rests position d) (get_or rests other d) (before.least i d (omega (arith, low, ne)))
              (comes_first-one_way (get_or rests other d) (get_or rests position d) (sym (test d) ∙ w.if-is_first.true))
        ];
      })
      | else-is_first w ↦ rw w.position-is (record {
        inside = before.inside;
        least = λ i d low. elim (cases_eq i other) [
          | inl e ↦ subst (λ k. comes_first (get_or rests k d) (get_or rests position d) ≡ false) (sym e) (sym (test d) ∙ w.if-is_first.false)
          | inr ne ↦ before.least i d (omega (arith, low, ne))
        ];
      })
    ]
