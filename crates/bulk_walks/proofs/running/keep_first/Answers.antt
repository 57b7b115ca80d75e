use Rattle.std.proofs.Common.{sym, ap, ◌∙◌, cond}
use Rattle.bulk_walks.proofs.GatherLemmas.{adds_first}
use Rattle.bulk_walks.proofs.running.keep_first.Goals as goal

-- the answer comes before the item
pub returns-in_ok-items-clause-adds : goal.returns-in_ok-items-clause-adds
returns-in_ok-items-clause-adds c =
    let item = c.find_first-first.result.0 in
    adds_first c.args.program.now c.args.arg.now c.args.entries.now item c.args.items.now c.in_ok-items.field-0 c.find_first-first.result.1 c.find_first-first.ensures.first
    (c.in_ok-items.ensures ∙ sym (ap (λ b. cond b item c.args.items.now) (sym c.is_before.ensures ∙ c.if-is_before.true)))

-- or it doesn't
pub returns-else-is_before-clause-adds : goal.returns-else-is_before-clause-adds
returns-else-is_before-clause-adds c =
    let item = c.find_first-first.result.0 in
    adds_first c.args.program.now c.args.arg.now c.args.entries.now item c.args.items.now c.args.items.now c.find_first-first.result.1 c.find_first-first.ensures.first
    (sym (ap (λ b. cond b item c.args.items.now) (sym c.is_before.ensures ∙ c.if-is_before.false)))
