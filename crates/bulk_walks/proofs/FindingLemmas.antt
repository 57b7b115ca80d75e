-- A worker's loop that collects.
use Rattle.std.proofs.Common.{◌≡◌, ◌≢◌, ℕ, ◌+◌, ◌^◌, ◌%◌, ◌<◌, ◌≤◌, List, [], ◌∷◌, ◌++◌, inl, inr, refl, sym, ap, ◌∙◌, subst, arith, length, length-append, sum_by}
use Rattle.std.proofs.lemmas.Bool.{cases_eq}
use Rattle.std.proofs.lemmas.List.{append_assoc}
use Rattle.std.proofs.lemmas.List.Sums.{sum_by-append}
use Rattle.stripe_rule.specs.declared.view.View.{View}
use Rattle.stripe_rule.specs.Gains.{Adds}
use Rattle.bins.specs.Table.{Entry}
use Rattle.bins.specs.Copies.{WeighSame}
use Rattle.bin_stripes.specs.declared.ghost_action.GhostAction.{GhostAction}
use Rattle.bin_stripes.specs.Actions.{scanned}
use Rattle.bin_stripes.specs.Histories.{own_events}
use Rattle.bin_stripes.specs.Invoked.{AreOf}
use Rattle.bin_stripes.specs.Passes.{PassState}
use Rattle.bulk_walks.specs.Walks.{Walked, Each, IsScan, MayScan}
use Rattle.bulk_walks.specs.Turns.{WorkerFinds}
use Rattle.bulk_walks.proofs.Sums.{with_at, with_at-same, with_at-other, turn_sum-more, turn_sum-past, sum_of_ones}
use Rattle.bulk_walks.proofs.TurnLemmas.{walked_none, walked_more, walked_past, walked_stop, walked_as, scanned_more}

-- a scan that was made is allowed
pub may_scan : (workers worker : ℕ) (scans : ℕ → List Entry) (v : View GhostAction) (n : ℕ) (w : View GhostAction) → Walked n workers worker (Each IsScan scans) v w → Walked n workers worker MayScan v w
may_scan workers worker scans v n w p = walked_as workers worker (Each IsScan scans) MayScan v n w p (λ k found more t e. inr (scans k, e))

module _ (all workers worker : ℕ) (v : View GhostAction) where
  pub finds_none : WorkerFinds all 0 workers worker v v []
  finds_none = record { scans = λ _. []; walked = walked_none workers worker _ v; stripes = λ k t. absurd (omega arith); bounded = λ k t. absurd (omega arith); sum = λ h. refl }

  pub finds_more : (n : ℕ) (u w : View GhostAction) (found entries : List Entry) → WorkerFinds all n workers worker v u found → n % workers ≡ worker → w.passes ≡ u.passes → Adds u n (own_events u (scanned entries ∷ [])) w → AreOf all n entries → length entries < 2 ^ 57
      → WorkerFinds all (n + 1) workers worker v w (found ++ entries)
  finds_more n u w found entries f turn same a are few = record {
    scans = with_at f.scans n entries;
    walked = scanned_more workers worker f.scans v n u w entries f.walked turn same a;
    stripes = λ k t. elim (cases_eq k n) [
      | inl e ↦ subst (λ m. AreOf all m (with_at f.scans n entries m)) (sym e) (subst (λ (es : List Entry). AreOf all n es) (sym (with_at-same f.scans n entries)) are)
      | inr ne ↦ subst (λ (es : List Entry). AreOf all k es) (sym (with_at-other f.scans n entries k ne)) (f.stripes k (omega arith, t.1))
    ];
    bounded = λ k t. elim (cases_eq k n) [
      | inl e ↦ subst (λ m. length (with_at f.scans n entries m) < 2 ^ 57) (sym e) (subst (λ (es : List Entry). length es < 2 ^ 57) (sym (with_at-same f.scans n entries)) few)
      | inr ne ↦ subst (λ (es : List Entry). length es < 2 ^ 57) (sym (with_at-other f.scans n entries k ne)) (f.bounded k (omega arith, t.1))
    ];
    sum = λ h. let m = turn_sum-more workers worker (λ (es : List Entry). sum_by h es) f.scans n entries turn in let s = f.sum h in let b = sum_by-append h found entries in omega (arith, m, s, b);
  }

  -- the same if copies of the scanned entries were added, in any order
  pub finds_copied : (n : ℕ) (u w : View GhostAction) (found after entries copies : List Entry) → WorkerFinds all n workers worker v u found → n % workers ≡ worker → w.passes ≡ u.passes → Adds u n (own_events u (scanned entries ∷ [])) w → AreOf all n entries
      → length entries < 2 ^ 57 → WeighSame copies entries → after ≡ found ++ copies → WorkerFinds all (n + 1) workers worker v w after
  finds_copied n u w found after entries copies f turn same a are few weigh added =
      let more = finds_more n u w found entries f turn same a are few in
      record {
        scans = more.scans;
        walked = more.walked;
        stripes = more.stripes;
        bounded = more.bounded;
        sum = λ h. ap (λ (es : List Entry). sum_by h es) added ∙ sum_by-append h found copies ∙ ap (λ m. sum_by h found + m) (weigh h) ∙ sym (sum_by-append h found entries) ∙ more.sum h;
      }

  -- copies of the scanned entries wait, after the early ones
  pub finds_waiting : (n : ℕ) (u w : View GhostAction) (early waiting after entries copies : List Entry) → WorkerFinds all n workers worker v u (early ++ waiting) → n % workers ≡ worker → w.passes ≡ u.passes
      → Adds u n (own_events u (scanned entries ∷ [])) w → AreOf all n entries → length entries < 2 ^ 57 → WeighSame copies entries → after ≡ waiting ++ copies → WorkerFinds all (n + 1) workers worker v w (early ++ after)
  finds_waiting n u w early waiting after entries copies f turn same a are few weigh added =
      finds_copied n u w (early ++ waiting) (early ++ after) entries copies f turn same a are few weigh (ap (λ (es : List Entry). early ++ es) added ∙ sym (append_assoc early waiting copies))

  pub finds_past : (n : ℕ) (u : View GhostAction) (found : List Entry) → WorkerFinds all n workers worker v u found → n % workers ≢ worker → WorkerFinds all (n + 1) workers worker v u found
  finds_past n u found f miss = record {
    scans = f.scans;
    walked = walked_past workers worker (Each IsScan f.scans) v n u f.walked miss;
    stripes = λ k t. elim (cases_eq k n) [ inl e ↦ absurd (miss (ap (λ m. m % workers) (sym e) ∙ t.1)) | inr ne ↦ f.stripes k (omega arith, t.1) ];
    bounded = λ k t. elim (cases_eq k n) [ inl e ↦ absurd (miss (ap (λ m. m % workers) (sym e) ∙ t.1)) | inr ne ↦ f.bounded k (omega arith, t.1) ];
    sum = λ h. f.sum h ∙ sym (turn_sum-past workers worker (λ k. sum_by h (f.scans k)) n miss);
  }

  -- the loop ended
  pub scans_part : (scans : ℕ → List Entry) (n most : ℕ) (u : View GhostAction) → n ≤ most → Walked n workers worker (Each IsScan scans) v u → Walked most workers worker MayScan v u
  scans_part scans n most u le p = walked_stop workers worker MayScan v n most u le (may_scan workers worker scans v n u p) (λ k _. inl refl)

  pub finds_part : (n most : ℕ) (u : View GhostAction) (found : List Entry) → n ≤ most → WorkerFinds all n workers worker v u found → Walked most workers worker MayScan v u
  finds_part n most u found le f = scans_part f.scans n most u le f.walked

  -- the next scan was refused
  pub scans_cut : (scans : ℕ → List Entry) (n most : ℕ) (u w : View GhostAction) → n < most → Walked n workers worker (Each IsScan scans) v u → n % workers ≡ worker → w.passes ≡ u.passes → Adds u n [] w → Walked most workers worker MayScan v w
  scans_cut scans n most u w lt p turn same a =
      walked_stop workers worker MayScan v (n + 1) most w (omega arith) (walked_more workers worker MayScan v n u w [] (may_scan workers worker scans v n u p) turn same a (inl refl)) (λ k _. inl refl)

pub finds_at : (all n workers worker : ℕ) (v : View GhostAction) (p q : PassState) (es fs : List Entry) → WorkerFinds all n workers worker v p.view es → q ≡ p → fs ≡ es → WorkerFinds all n workers worker v q.view fs
finds_at all n workers worker v p q es fs f same list =
    subst (λ (p : PassState). WorkerFinds all n workers worker v p.view fs) (sym same) (subst (λ (es : List Entry). WorkerFinds all n workers worker v p.view es) (sym list) f)

-- no more came than were scanned
pub copies_few : (waiting after entries copies : List Entry) → length entries < 2 ^ 57 → WeighSame copies entries → after ≡ waiting ++ copies → length after < length waiting + 2 ^ 57
copies_few waiting after entries copies few weigh added =
    let w = weigh (λ _. 1) in
    let one = sum_of_ones copies in
    let other = sum_of_ones entries in
    let all = ap (λ (es : List Entry). length es) added in
    let both = length-append waiting copies in
    omega (arith, few, w, one, other, all, both)
