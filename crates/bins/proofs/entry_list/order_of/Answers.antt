use Rattle.std.proofs.Common.{rules}
use Rattle.std.proofs.lemmas.List.Sorted.{ranks_by, IsPermutation-trans}
use Rattle.std.proofs.lemmas.Fn.{always_returns_same}
use Rattle.bins.specs.KeptRows.{string_at}
use Rattle.bins.specs.Copies.{is_before}
use Rattle.bins.proofs.MapEdits.{total}
use Rattle.bins.proofs.entry_list.order_of.Goals as goal

pub returns-clause-moved : goal.returns-clause-moved
returns-clause-moved c = IsPermutation-trans _ _ _ c.in_ok-order.ensures.moved c.sort_unstable_by.ensures.permutation

pub returns-clause-order : goal.returns-clause-order
returns-clause-order c =
    c.sort_unstable_by.ensures.sorted (is_before c.args.rows.now.keys) (ranks_by total (string_at c.args.rows.now.keys)) (always_returns_same _ _ _ (λ a r f' p. search rules))
