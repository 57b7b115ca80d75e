-- A worker's loop that replaces, and its sums.
use Rattle.std.proofs.Common.{◌≡◌, ◌≢◌, ℕ, ◌+◌, ◌^◌, ◌%◌, ◌<◌, ◌≤◌, List, ◌++◌, Option, length, sum_by, get_or, sym, ap, ◌∙◌, subst, arith}
use Rattle.std.proofs.lemmas.List.Sums.{count_by-le-length}
use Rattle.stripe_rule.specs.declared.view.View.{View}
use Rattle.stripe_rule.specs.Gains.{seen_of}
use Rattle.verifier.specs.Checked.{Checked}
use Rattle.bins.specs.declared.counts.Counts.{Counts}
use Rattle.bins.specs.Replacements.{is_given, is_unfit}
use Rattle.bins.specs.Table.{Entry}
use Rattle.bin_stripes.specs.declared.ghost_action.GhostAction.{GhostAction}
use Rattle.bin_stripes.specs.Histories.{own_events, Leaves}
use Rattle.bin_stripes.specs.Invoked.{AreReplacements, ReplacesInStripe}
use Rattle.bin_stripes.specs.Passes.{PassState, stripes_of}
use Rattle.bulk_walks.specs.Walks.{AllWalked, Each, IsReplaced, sum_below}
use Rattle.atomic_methods.specs.Whole.{IsSum}
use Rattle.bulk_walks.specs.Turns.{turn_sum, ReplacesTurns, EachReplaces}
use Rattle.bulk_walks.proofs.Sums.{with_at, with_at-same, turn_sum-same, turn_sum-turn, turn_sum-more, turn_sum-past, sums_of_turns, bound_of_turns, sum_below-const}
use Rattle.bulk_walks.proofs.TurnLemmas.{walked_none, walked_more, walked_past, walked_with, own_again}
use Rattle.bulk_walks.proofs.TeamLemmas.{Turn, together, all_walked}

-- nothing was counted
abbrev pub none_counted : Counts
none_counted = record { scanned = 0; given = 0; unfit = 0 }

-- no kind counts more than all entries
pub at_most_scanned : {checked : Checked} {arg : Option (List ℕ)} {entries : List Entry} {actions : _} {counts : Counts} → AreReplacements checked arg entries actions counts
    → (counts.given ≤ counts.scanned) × (counts.unfit ≤ counts.scanned)
at_most_scanned {entries = entries} are =
    let given = count_by-le-length (λ (e : Entry). is_given (are.outcome e.0)) entries in
    let unfit = count_by-le-length (λ (e : Entry). is_unfit (are.outcome e.0)) entries in
    (omega (arith, given, are.given_are, are.scanned_are), omega (arith, unfit, are.unfit_are, are.scanned_are))

module _ (all : ℕ) (checked : Checked) (arg : Option (List ℕ)) (workers worker : ℕ) (v : View GhostAction) where
  pub replaces_none : (total : Counts) → total.scanned ≡ 0 → total.given ≡ 0 → total.unfit ≡ 0 → ReplacesTurns all checked arg 0 workers worker v v total
  replaces_none total s g u = record {
    counts = λ _. total;
    walked = walked_none workers worker _ v;
    scanned = s;
    given = g;
    unfit = u;
    bounded_scanned = omega (arith, s);
    bounded_given = omega (arith, g);
    bounded_unfit = omega (arith, u);
  }

  pub replaces_more : (n : ℕ) (p q : PassState) (before more total : Counts) → ReplacesTurns all checked arg n workers worker v p.view before → n % workers ≡ worker → q.view.passes ≡ p.view.passes
      → stripes_of p.map ≡ all → ReplacesInStripe p n checked arg more q → more.scanned < 2 ^ 57 → IsSum total before more → ReplacesTurns all checked arg (n + 1) workers worker v q.view total
  replaces_more n p q before more total r turn same stripes e bounded sum =
      let counts = with_at r.counts n more in
      let here : IsReplaced all checked arg n more v (seen_of p.view n ++ e.makes.here.between) (own_events p.view e.actions) =
      record { actions = e.actions; events = own_again p.view v e.actions r.walked.numbers; table = e.table; left = subst (λ (m : ℕ). Leaves m n (seen_of p.view n ++ e.makes.here.between) e.table) stripes e.found; are = e.are } in
      let bound = at_most_scanned e.are in
      let s = turn_sum-more workers worker (λ (c : Counts). c.scanned) r.counts n more turn in
      let g = turn_sum-more workers worker (λ (c : Counts). c.given) r.counts n more turn in
      let u = turn_sum-more workers worker (λ (c : Counts). c.unfit) r.counts n more turn in
      let most = turn_sum-turn workers worker (λ _. 2 ^ 57) n turn in
      record {
        counts = counts;
        walked = walked_more workers worker (Each (IsReplaced all checked arg) counts) v n p.view q.view (own_events p.view e.actions)
            (walked_with (IsReplaced all checked arg) workers worker r.counts v n p.view more r.walked) turn same e.makes
            (subst (λ (c : Counts). IsReplaced all checked arg n c v (seen_of p.view n ++ e.makes.here.between) (own_events p.view e.actions)) (sym (with_at-same r.counts n more)) here);
        scanned = omega (arith, s, r.scanned, sum.scanned);
        given = omega (arith, g, r.given, sum.given);
        unfit = omega (arith, u, r.unfit, sum.unfit);
        bounded_scanned = omega (arith, most, r.bounded_scanned, sum.scanned, bounded);
        bounded_given = omega (arith, most, r.bounded_given, sum.given, bounded, bound.0);
        bounded_unfit = omega (arith, most, r.bounded_unfit, sum.unfit, bounded, bound.1);
      }

  pub replaces_past : (n : ℕ) (u : View GhostAction) (total : Counts) → ReplacesTurns all checked arg n workers worker v u total → n % workers ≢ worker → ReplacesTurns all checked arg (n + 1) workers worker v u total
  replaces_past n u total r miss =
      let past : (f : ℕ → ℕ) → turn_sum workers worker f (n + 1) ≡ turn_sum workers worker f n = λ f. turn_sum-past workers worker f n miss in
      let most = past (λ _. 2 ^ 57) in
      record {
        counts = r.counts;
        walked = walked_past workers worker (Each (IsReplaced all checked arg) r.counts) v n u r.walked miss;
        scanned = r.scanned ∙ sym (past (λ k. (r.counts k).scanned));
        given = r.given ∙ sym (past (λ k. (r.counts k).given));
        unfit = r.unfit ∙ sym (past (λ k. (r.counts k).unfit));
        bounded_scanned = omega (arith, most, r.bounded_scanned);
        bounded_given = omega (arith, most, r.bounded_given);
        bounded_unfit = omega (arith, most, r.bounded_unfit);
      }

pub replaces_at : (all : ℕ) (checked : Checked) (arg : Option (List ℕ)) (n workers worker : ℕ) (v : View GhostAction) (p q : PassState) (x y : Counts) → ReplacesTurns all checked arg n workers worker v p.view x → q ≡ p → y ≡ x
    → ReplacesTurns all checked arg n workers worker v q.view y
replaces_at all checked arg n workers worker v p q x y r same total =
    subst (λ (p : PassState). ReplacesTurns all checked arg n workers worker v p.view y) (sym same) (subst (λ (x : Counts). ReplacesTurns all checked arg n workers worker v p.view x) (sym total) r)

-- of one kind
module _ (n : ℕ) (checked : Checked) (arg : Option (List ℕ)) (before : List PassState) (rs : List Counts) (after : List PassState) (d : PassState) (some : 0 < length before) (did : EachReplaces n checked arg before rs after) where
  -- the sums fit
  pub replaces_fit : (kind : Counts → ℕ) → n ≤ 64 → ((j : ℕ) → j < length before → kind (get_or rs j none_counted) ≤ turn_sum (length before) j (λ _. 2 ^ 57) n) → sum_by kind rs < 2 ^ 64
  replaces_fit kind most bounded =
      let below : (k : ℕ) → k < length rs → kind (get_or rs k none_counted) ≤ turn_sum (length rs) k (λ _. 2 ^ 57) n =
      λ k low. subst (λ m. kind (get_or rs k none_counted) ≤ turn_sum m k (λ _. 2 ^ 57) n) (sym did.answers) (bounded k (omega (arith, did.answers))) in
      let total = bound_of_turns kind rs (λ _. 2 ^ 57) n none_counted (omega (arith, did.answers)) below in
      let top = sum_below-const n (2 ^ 57) in
      omega arith

  pub scanned_fit : n ≤ 64 → sum_by (λ (c : Counts). c.scanned) rs < 2 ^ 64
  scanned_fit most = replaces_fit (λ c. c.scanned) most (λ j low. (did.each j d none_counted low).bounded_scanned)

  pub given_fit : n ≤ 64 → sum_by (λ (c : Counts). c.given) rs < 2 ^ 64
  given_fit most = replaces_fit (λ c. c.given) most (λ j low. (did.each j d none_counted low).bounded_given)

  pub unfit_fit : n ≤ 64 → sum_by (λ (c : Counts). c.unfit) rs < 2 ^ 64
  unfit_fit most = replaces_fit (λ c. c.unfit) most (λ j low. (did.each j d none_counted low).bounded_unfit)

  abbrev G : ℕ → (ℕ → Counts) → Type 0
  G j counts = Turn (IsReplaced n checked arg) n before after d j counts × ((get_or rs j none_counted).scanned ≡ turn_sum (length before) j (λ k. (counts k).scanned) n)
      × ((get_or rs j none_counted).given ≡ turn_sum (length before) j (λ k. (counts k).given) n) × ((get_or rs j none_counted).unfit ≡ turn_sum (length before) j (λ k. (counts k).unfit) n)

  pub record All_of : Type 0 where
    pub counts : ℕ → Counts
    pub walked : AllWalked n (Each (IsReplaced n checked arg) counts) before after
    pub scanned : sum_by (λ (c : Counts). c.scanned) rs ≡ sum_below n (λ k. (counts k).scanned)
    pub given : sum_by (λ (c : Counts). c.given) rs ≡ sum_below n (λ k. (counts k).given)
    pub unfit : sum_by (λ (c : Counts). c.unfit) rs ≡ sum_below n (λ k. (counts k).unfit)

  -- all stripes were replaced, and the sums are theirs
  pub replaces_all : All_of
  replaces_all =
      let of : (j : ℕ) → j < length before → (counts : ℕ → Counts) × G j counts = λ j low. let one = did.each j d none_counted low in (one.counts, (one.walked, one.scanned, one.given, one.unfit)) in
      let all = together none_counted (length before) G of in
      let counts = all.0 in
      let sums : (kind : Counts → ℕ) → ((j : ℕ) (own : ℕ → Counts) → G j own → kind (get_or rs j none_counted) ≡ turn_sum (length before) j (λ k. kind (own k)) n) → sum_by kind rs ≡ sum_below n (λ k. kind (counts k)) =
      λ kind is. sums_of_turns kind rs (λ k. kind (counts k)) n none_counted (omega (arith, did.answers)) (λ j low.
      let had = all.1 j (omega (arith, did.answers)) in
      let same = turn_sum-same (length before) j (λ k. kind (had.0 k)) (λ k. kind (counts k)) n (λ k t. ap kind (had.1.1 k t.1)) in
      subst (λ m. kind (get_or rs j none_counted) ≡ turn_sum m j (λ k. kind (counts k)) n) (sym did.answers) (is j had.0 had.1.0 ∙ same)) in
      record {
        counts = counts;
        walked = all_walked (IsReplaced n checked arg) n before after d did.left counts (λ j low. let had = all.1 j low in (had.0, (had.1.0.0, had.1.1)));
        scanned = sums (λ c. c.scanned) (λ j own g. g.1);
        given = sums (λ c. c.given) (λ j own g. g.2);
        unfit = sums (λ c. c.unfit) (λ j own g. g.3);
      }
