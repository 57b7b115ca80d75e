use Rattle.std.proofs.Common.{◌≡◌, ◌==◌, ◌∙◌, length, true, sym, subst}
use Rattle.sqlite.specs.Held.{state}
use Rattle.map_keeper.proofs.WriteLemmas.{none_left, pending_all, survives_same}
use Rattle.map_keeper.proofs.taker.BatchWriter.write_left.Goals as goal

-- it has no changes
pub returns-then-is_empty-clause-wrote : goal.returns-then-is_empty-clause-wrote
returns-then-is_empty-clause-wrote g c clean rows start pending =
    let none = none_left c.args.self.now.batch.bytes.items (subst (λ l. (length l == 0) ≡ true) c.as_slice.ensures (sym c.is_empty.ensures ∙ c.if-is_empty.true)) in
    pending_all (state g.S.Store) c.args.stripe rows c.args.self.now.batch.bytes.items start c.args.save.now.conn.now pending none

pub returns-then-is_empty-clause-kept : goal.returns-then-is_empty-clause-kept
returns-then-is_empty-clause-kept g c = survives_same _
