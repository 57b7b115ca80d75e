-- A worker's loop that counts.
use Rattle.std.proofs.Common.{◌≡◌, ◌≢◌, ℕ, ◌+◌, ◌^◌, ◌%◌, ◌<◌, List, [], length, sym, ◌∙◌, subst, arith}
use Rattle.stripe_rule.specs.declared.view.View.{View}
use Rattle.bins.specs.Table.{Entry}
use Rattle.bin_stripes.specs.declared.ghost_action.GhostAction.{GhostAction}
use Rattle.bin_stripes.specs.Invoked.{CountsStripe}
use Rattle.bin_stripes.specs.Passes.{PassState}
use Rattle.bulk_walks.specs.Walks.{Each, IsScan}
use Rattle.bulk_walks.specs.Turns.{CountsTurns}
use Rattle.bulk_walks.proofs.Sums.{with_at, turn_sum-turn, turn_sum-more, turn_sum-past}
use Rattle.bulk_walks.proofs.TurnLemmas.{walked_none, walked_past, scanned_more}

module _ (workers worker : ℕ) (v : View GhostAction) where
  pub counts_none : CountsTurns 0 workers worker v v 0
  counts_none = record { scans = λ _. []; walked = walked_none workers worker _ v; count_is = omega arith; bounded = omega arith }

  -- one more stripe is counted
  pub counts_more : (n : ℕ) (p q : PassState) (before more : ℕ) → CountsTurns n workers worker v p.view before → n % workers ≡ worker → q.view.passes ≡ p.view.passes
      → CountsStripe p n more q → more < 2 ^ 57 → CountsTurns (n + 1) workers worker v q.view (before + more)
  counts_more n p q before more r turn same e bounded =
      let sum = turn_sum-more workers worker (λ (es : List Entry). length es) r.scans n e.entries turn in
      let most = turn_sum-turn workers worker (λ _. 2 ^ 57) n turn in
      record {
        scans = with_at r.scans n e.entries;
        walked = scanned_more workers worker r.scans v n p.view q.view e.entries r.walked turn same e.scans;
        count_is = omega (arith, sum, r.count_is, e.count_is);
        bounded = omega (arith, most, r.bounded, bounded);
      }

  pub counts_past : (n : ℕ) (u : View GhostAction) (count : ℕ) → CountsTurns n workers worker v u count → n % workers ≢ worker → CountsTurns (n + 1) workers worker v u count
  counts_past n u count r miss =
      let most = turn_sum-past workers worker (λ _. 2 ^ 57) n miss in
      record {
        scans = r.scans;
        walked = walked_past workers worker (Each IsScan r.scans) v n u r.walked miss;
        count_is = r.count_is ∙ sym (turn_sum-past workers worker (λ k. length (r.scans k)) n miss);
        bounded = omega (arith, most, r.bounded);
      }

pub counts_at : (n workers worker : ℕ) (v : View GhostAction) (p q : PassState) (x y : ℕ) → CountsTurns n workers worker v p.view x → q ≡ p → y ≡ x → CountsTurns n workers worker v q.view y
counts_at n workers worker v p q x y r same count =
    subst (λ (p : PassState). CountsTurns n workers worker v p.view y) (sym same) (subst (λ (x : ℕ). CountsTurns n workers worker v p.view x) (sym count) r)
