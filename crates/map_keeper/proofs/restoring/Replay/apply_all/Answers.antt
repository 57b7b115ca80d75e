use Rattle.std.proofs.Common.{◌==◌, ◌∙◌, ℕ, Bool, refl, sym, ap, subst}
use Rattle.atomic_table.specs.Seated.{TableId}
use Rattle.sqlite.specs.Held.{state}
use Rattle.bin_stripes.specs.Passes.{stripes_of}
use Rattle.kept_file.specs.Reading.{HandsOut, row_of}
use Rattle.map_keeper.proofs.RestoreLemmas.{FileSoFar, file_all, file_more, file_none}
use Rattle.map_keeper.proofs.SaveLemmas.{same_then}
use Rattle.map_keeper.proofs.WriteLemmas.{kept_then, survives_same}
use Rattle.map_keeper.proofs.restoring.Replay.apply_all.Goals as goal

-- no batch yet
pub loop-init : goal.loop-init
loop-init g c =
    let wide = c.args.self.now.had == stripes_of c.args.self.now.map.now in
    let first = c.args.batches.now.conn.now in
    record {
      map = refl;
      same = record { map = refl; passes = refl };
      same_reference = refl;
      kept = survives_same (state g.S.Store first);
      file = subst (λ (n : ℕ). FileSoFar g.S.Store wide c.args.self.now.time n first first c.args.pass.now c.args.pass.now) (sym c.new-batch.ensures.number)
          (file_none g.S.Store wide c.args.self.now.time first c.args.pass.now);
    }

-- one more
pub loop-preserved : goal.loop-preserved
loop-preserved g c =
    let before = c.loop.invariant in
    let wide = c.args.self.now.had == stripes_of c.args.self.now.map.now in
    let mid = c.loop.batches.conn.now in
    let last = c.next.new.batches.conn.now in
    let batch = c.next.new.batch in
    record {
      map = c.apply_batch.ensures.same.map ∙ before.map;
      same = same_then c.args.pass.now c.loop.pass c.apply_batch.new.pass before.same c.apply_batch.ensures.same;
      same_reference = c.next.ensures.same_reference ∙ before.same_reference;
      kept = kept_then _ _ _ before.kept c.next.ensures.kept;
      file = file_more g.S.Store wide c.args.self.now.time c.loop.batch.number batch.number batch.stripe batch.bytes.items c.args.batches.now.conn.now mid last
          c.args.pass.now c.loop.pass c.apply_batch.new.pass before.file (c.in_ok-next.ensures.rises c.if-not-branch.false) c.next.ensures.kept
          (λ clean. subst (λ (b : Bool). HandsOut g.S.Store mid last b (row_of batch)) c.if-not-branch.false (c.in_ok-next.ensures.hands clean))
          (ap (λ (id : TableId). stripes_of id) before.map) c.in_ok-apply_batch.ensures.replays;
    }

-- the file has no more
pub returns-then-not-branch-clause-replayed : goal.returns-then-not-branch-clause-replayed
returns-then-not-branch-clause-replayed g c clean =
    let mid = c.loop.batches.conn.now in
    let last = c.next.new.batches.conn.now in
    file_all g.S.Store (c.args.self.now.had == stripes_of c.args.self.now.map.now) c.args.self.now.time c.loop.batch.number c.args.batches.now.conn.now mid last c.args.pass.now c.loop.pass
    (row_of c.next.new.batch) c.loop.invariant.file c.next.ensures.kept clean
    (subst (λ (b : Bool). HandsOut g.S.Store mid last b (row_of c.next.new.batch)) c.if-not-branch.true (c.in_ok-next.ensures.hands clean))
