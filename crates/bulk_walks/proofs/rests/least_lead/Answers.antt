use Rattle.std.proofs.Common.{◌≡◌, ◌+◌, ◌<◌, ℕ, List, inl, inr, false, get_or, length, sym, ap, ◌∙◌, subst, arith}
use Rattle.std.proofs.lemmas.Bool.{cases_eq}
use Rattle.std.proofs.lemmas.Bool.Decides.{nat_tests}
use Rattle.std.proofs.lemmas.List.{get_or_default, get_or-map, length-map}
use Rattle.bins.specs.Entries.{entry_of}
use Rattle.bins.specs.Fronts.{AreBytes}
use Rattle.bins.specs.Table.{Entry}
use Rattle.bulk_walks.specs.Merges.{comes_first, lead_of, left_of, lefts_of}
use Rattle.bulk_walks.proofs.MergeLemmas.{comes_first-itself, comes_first-by_lead}
use Rattle.bulk_walks.proofs.rests.least_lead.Goals as goal
use Rattle.bulk_walks.proofs.rests.least_lead.Goals.{then-lead-least, else-lead-least}

-- one more lead
pub loop-other-preserved : goal.loop-other-preserved
loop-other-preserved c =
    let before = c.loop-other.invariant in
    let rests = lefts_of c.args.rests.now in
    let other = c.loop-other.other in
    let position = c.loop-other.position in
    let list : (d : List Entry) → left_of c.index-rests-other.result ≡ get_or rests other d = λ d.
    ap left_of c.index-rests-other.is ∙ sym (get_or-map left_of c.args.rests.now other _ d (omega (arith, c.loop-other-test.true))) in
    let lead : (d : List Entry) → c.lead-lead.result ≡ lead_of (get_or rests other d) = λ d. c.lead-lead.ensures.value ∙ ap lead_of (list d) in
    let bytes : (k : ℕ) (d : List Entry) → k < other + 1 → AreBytes (entry_of (get_or rests k d) 0).0 = λ k d low. elim (cases_eq k other) [
      | inl e ↦ subst (λ n. AreBytes (entry_of (get_or rests n d) 0).0) (sym e) (subst (λ (es : List Entry). AreBytes (entry_of es 0).0) (list d) c.lead-lead.ensures.bytes)
      | inr ne ↦ before.bytes k d (omega (arith, low, ne))
    ] in
    let most = c.max.ensures in
    let second = c.min-second.ensures in
    let least = c.min-least.ensures in
    elim c.if-lead-least.branch [
      | then-lead-least w ↦ rw w.position-is (record {
        inside = c.loop-other-test.true;
        least = λ d. let l = lead d in omega (arith, least, l, w.if-lead-least.true);
        bytes = bytes;
        order = omega (arith, least, second, most, before.order);
        second = λ k d low ne.
            let here : k < other = omega (arith, low, ne) in
            elim (cases_eq k position) [
              | inl e ↦ let l = before.least d ∙ ap (λ n. lead_of (get_or rests n d)) (sym e) in omega (arith, second, most, before.order, l, w.if-lead-least.true)
              | inr not ↦ let s = before.second k d here not in omega (arith, second, s)
            ];
      })
      | else-lead-least w ↦ rw w.position-is (record {
        inside = before.inside;
        least = λ d. let l = before.least d in omega (arith, least, l, w.if-lead-least.false);
        bytes = bytes;
        order = omega (arith, least, second, most, before.order);
        second = λ k d low ne.
            elim (cases_eq k other) [
              | inl e ↦ let l = lead d ∙ ap (λ n. lead_of (get_or rests n d)) (sym e) in omega (arith, second, most, l, w.if-lead-least.false)
              | inr not ↦ let s = before.second k d (omega (arith, low, not)) ne in omega (arith, second, s)
            ];
      })
    ]

-- the least lead is alone if the others are not less than a greater one
pub returns-clause-alone : goal.returns-clause-alone
returns-clause-alone c less k d low =
    let inv = c.loop-other.invariant in
    let rests = lefts_of c.args.rests.now in
    let position = c.loop-other.position in
    let many = length-map c.args.rests.now left_of in
    let inside : position < length rests = omega (arith, many, inv.inside) in
    elim (cases_eq k position) [
      | inl e ↦ subst (λ n. comes_first (get_or rests n d) (get_or rests position (get_or rests n d)) ≡ false) (sym e)
          (subst (λ (es : List Entry). comes_first (get_or rests position d) es ≡ false) (get_or_default rests position d _ inside) (comes_first-itself (get_or rests position d)))
      | inr ne ↦
          let end : k < c.loop-other.other = omega (arith, low, many, c.loop-other-test.false, c.loop-other.auto.other-end) in
          comes_first-by_lead (get_or rests position (get_or rests k d)) (get_or rests k d) (inv.bytes k d end)
          (let lt : c.loop-other.least < c.loop-other.second = grind (arith, nat_tests, less) in let l = inv.least (get_or rests k d) in let s = inv.second k d end ne in omega (arith, lt, l, s))
    ]
