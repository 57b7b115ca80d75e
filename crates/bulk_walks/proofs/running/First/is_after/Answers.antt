use Rattle.std.proofs.Common.{◌≡◌, ◌∷◌, [], List, true, false, option_copied, sym, subst, arith}
use Rattle.bins.specs.Table.{Entry}
use Rattle.bulk_walks.specs.Kept.{item_of}
use Rattle.bulk_walks.specs.Merges.{comes_first}
use Rattle.bulk_walks.proofs.MergeLemmas.{comes_first-of_lead, comes_first-by_lead}
use Rattle.bulk_walks.proofs.running.First.is_after.Goals as goal

-- its lead is less
pub returns-then-lead-self : goal.returns-then-lead-self
returns-then-lead-self c = λ answer.
    let item = item_of (option_copied c.self.inside.key) c.self.inside.answer in
    sym (subst (λ (items : List Entry). comes_first ((c.args.key.now, answer) ∷ []) items ≡ true) c.self.view_is
    (comes_first-of_lead (c.args.key.now, answer) item c.self.invariant.bytes (omega (arith, c.if-lead-self.true, c.front_of-lead.ensures.value, c.self.invariant.is))))

-- or greater
pub returns-then-self-lead : goal.returns-then-self-lead
returns-then-self-lead c = λ answer.
    let item = item_of (option_copied c.self.inside.key) c.self.inside.answer in
    sym (subst (λ (items : List Entry). comes_first ((c.args.key.now, answer) ∷ []) items ≡ false) c.self.view_is
    (comes_first-by_lead item ((c.args.key.now, answer) ∷ []) c.front_of-lead.ensures.bytes (omega (arith, c.if-self-lead.true, c.front_of-lead.ensures.value, c.self.invariant.is))))
