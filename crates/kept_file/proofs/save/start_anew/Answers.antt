use Rattle.std.proofs.Common.{◌∙◌, List, subst}
use Rattle.sqlite.specs.Held.{state}
use Rattle.sqlite.specs.Order.{Row}
use Rattle.kept_file.specs.Rows.{kept_number}
use Rattle.kept_file.specs.Saves.{Removes}
use Rattle.kept_file.proofs.DeleteLemmas.{clears, removes_more, removes_none}
use Rattle.kept_file.proofs.ReadLemmas.{clean_before, kept_then, survives_same}
use Rattle.kept_file.proofs.RowLemmas.{all_taken}
use Rattle.kept_file.proofs.save.start_anew.Goals as goal

-- none yet
pub loop-row-init : goal.loop-row-init
loop-row-init g c = record {
  same_reference = c.in_ok-numbers.ensures.same_reference;
  removed = λ clean. removes_none (state g.S.Store) c.deref-row-items.result.now c.numbers_of.new.save.conn.now;
  kept = survives_same (state g.S.Store c.numbers_of.new.save.conn.now);
}

-- one more
pub loop-row-preserved : goal.loop-row-preserved
loop-row-preserved g c =
    let before = c.loop-row.invariant in
    record {
      same_reference = c.in_ok-remove.ensures.same_reference ∙ before.same_reference;
      removed = λ clean. removes_more (state g.S.Store) c.deref-row-items.result.now c.loop-row.row-index c.row-item.result c.numbers_of.new.save.conn.now c.loop-row.save.conn.now c.remove.new.save.conn.now
          c.loop-row-test.true c.row-item.is (before.removed (clean_before _ _ (λ _. ⊥) c.remove.ensures.kept clean)) (c.in_ok-remove.ensures.made clean);
      kept = kept_then _ _ _ before.kept c.remove.ensures.kept;
    }

-- a fault leaves the commit as it was
pub returns-in_err-remove-clause-kept : goal.returns-in_err-remove-clause-kept
returns-in_err-remove-clause-kept g c = kept_then _ _ _ c.numbers_of.ensures.kept (kept_then _ _ _ c.loop-row.invariant.kept c.remove.ensures.kept)

pub returns-clause-kept : goal.returns-clause-kept
returns-clause-kept g c = kept_then _ _ _ c.numbers_of.ensures.kept c.loop-row.invariant.kept

-- all of them
pub returns-clause-made : goal.returns-clause-made
returns-clause-made g c clean = record {
  numbers = c.in_ok-numbers.numbers.items;
  mid = c.numbers_of.new.save.conn.now;
  asked = c.in_ok-numbers.ensures.shown (clean_before _ _ (λ _. ⊥) c.loop-row.invariant.kept clean);
  removed = subst (λ (l : List Row). Removes (state g.S.Store) l c.numbers_of.new.save.conn.now c.loop-row.save.conn.now)
      (all_taken c.deref-row-items.result.now c.loop-row.row-index c.loop-row-test.false ∙ c.deref-row-items.ensures.value) (c.loop-row.invariant.removed clean);
}

-- the batches of the stripe, and no other
pub returns-clause-batches : goal.returns-clause-batches
returns-clause-batches g c clean has = clears (state g.S.Store) (kept_number c.args.stripe) c.args.save.now.conn.now c.loop-row.save.conn.now has (returns-clause-made g c clean)
