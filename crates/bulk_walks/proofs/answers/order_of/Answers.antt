use Rattle.std.proofs.Common.{ℕ, rules}
use Rattle.std.proofs.lemmas.List.Sorted.{ranks_by, IsPermutation-trans}
use Rattle.std.proofs.lemmas.Fn.{always_returns_same}
use Rattle.std.specs.Cmp.Lexicographic.{nat_list_cmp_total}
use Rattle.bins.specs.Copies.{comes_before}
use Rattle.bins.specs.Entries.{entry_of}
use Rattle.bulk_walks.proofs.OrderLemmas.{moved, rising}
use Rattle.bulk_walks.proofs.answers.order_of.Goals as goal

pub returns-clause-moved : goal.returns-clause-moved
returns-clause-moved c = moved c.args.list.now c.sort_unstable_by.new.self.items (IsPermutation-trans _ _ _ c.in_ok-order.ensures.moved c.sort_unstable_by.ensures.permutation)

pub returns-clause-order : goal.returns-clause-order
returns-clause-order c =
    let es = c.args.list.now in
    rising es c.sort_unstable_by.new.self.items
    (c.sort_unstable_by.ensures.sorted (λ p q. comes_before (entry_of es p) (entry_of es q)) (ranks_by nat_list_cmp_total (λ (p : ℕ). (entry_of es p).0)) (always_returns_same _ _ _ (λ a r f' p. search rules)))
