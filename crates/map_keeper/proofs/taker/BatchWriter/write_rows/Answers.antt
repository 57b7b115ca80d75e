use Rattle.std.proofs.Common.{◌≡◌, ◌∙◌, ◌++◌, ◌∷◌, [], ◌+◌, List, take, refl, sym, ap, subst, arith}
use Rattle.std.proofs.lemmas.List.{take_more}
use Rattle.sqlite.specs.Held.{state}
use Rattle.noted_bins.specs.Marks.{saved_in}
use Rattle.noted_bins.specs.Rows.{Row}
use Rattle.kept_file.proofs.RowLemmas.{all_taken}
use Rattle.map_keeper.specs.Written.{Pending}
use Rattle.map_keeper.proofs.WriteLemmas.{clean_before, kept_then, on_ok, pending_more, pending_none, survives_same}
use Rattle.map_keeper.proofs.taker.BatchWriter.write_rows.Goals as goal

pub loop-place-init : goal.loop-place-init
loop-place-init g c = record {
  same_reference = refl;
  pending = λ clean. pending_none (state g.S.Store) c.args.stripe c.clear.new.self.bytes.items c.args.save.now.conn.now c.clear.ensures;
  kept = survives_same _;
}

-- one row more
pub loop-place-preserved : goal.loop-place-preserved
loop-place-preserved g c =
    let before = c.loop-place.invariant in
    let rows = c.args.changes.now in
    let place = c.loop-place.place in
    let row : Row = (c.get.result.0.now, saved_in c.get.result.1) in
    record {
      same_reference = c.write_full.ensures.same_reference ∙ before.same_reference;
      pending = λ clean.
          let early = clean_before _ _ _ c.write_full.ensures.kept clean in
          let is : take (place + 1) rows ≡ take place rows ++ row ∷ [] = take_more rows place _ (omega arith) ∙ ap (λ (r : Row). take place rows ++ r ∷ []) (sym c.get.ensures.row) in
          subst (λ (l : List Row). Pending (state g.S.Store) c.args.stripe l c.write_full.new.self.batch.bytes.items c.args.save.now.conn.now c.write_full.new.save.conn.now) (sym is)
          (c.in_ok-write_full.ensures.wrote clean (take place rows ++ row ∷ []) c.args.save.now.conn.now
          (pending_more (state g.S.Store) c.args.stripe (take place rows) row c.loop-place.self.batch.bytes.items c.push.new.batch.bytes.items c.args.save.now.conn.now c.loop-place.save.conn.now
          (before.pending early) c.in_ok-push.ensures.0 c.in_ok-push.ensures.1));
      kept = kept_then _ _ _ before.kept c.write_full.ensures.kept;
    }

pub returns-in_err-write_full-clause-kept : goal.returns-in_err-write_full-clause-kept
returns-in_err-write_full-clause-kept g c = kept_then _ _ _ c.loop-place.invariant.kept c.write_full.ensures.kept

-- all are written
pub returns-clause-made : goal.returns-clause-made
returns-clause-made g c clean =
    let before = c.loop-place.invariant in
    let rows = c.args.changes.now in
    let early = clean_before _ _ _ c.write_left.ensures.kept clean in
    on_ok c.write_left.result _ _
    (λ writes. writes rows c.args.save.now.conn.now
    (subst (λ (l : List Row). Pending (state g.S.Store) c.args.stripe l c.loop-place.self.batch.bytes.items c.args.save.now.conn.now c.loop-place.save.conn.now)
    (all_taken rows c.loop-place.place (omega arith)) (before.pending early)))
    (c.write_left.ensures.wrote clean)

pub returns-clause-kept : goal.returns-clause-kept
returns-clause-kept g c = kept_then _ _ _ c.loop-place.invariant.kept c.write_left.ensures.kept
