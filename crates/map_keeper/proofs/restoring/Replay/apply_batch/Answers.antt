use Rattle.std.proofs.Common.{◌≡◌, ◌==◌, ◌∙◌, IsTrue, List, ℕ, refl, sym, subst}
use Rattle.atomic_table.specs.Seated.{TableId}
use Rattle.atomic_methods.specs.Hashes.{stripe_of}
use Rattle.bin_stripes.specs.Passes.{stripes_of}
use Rattle.kept_file.specs.Changes.{change_of}
use Rattle.map_keeper.proofs.RestoreLemmas.{BatchSoFar, batch_all, batch_more, batch_none}
use Rattle.map_keeper.proofs.SaveLemmas.{same_then}
use Rattle.map_keeper.proofs.WriteLemmas.{none_left}
use Rattle.map_keeper.proofs.restoring.Replay.apply_batch.Goals as goal

-- no change yet
pub loop-init : goal.loop-init
loop-init g c =
    let wide = c.args.self.now.had == stripes_of c.args.self.now.map.now in
    let bytes = c.args.batch.now.bytes.items in
    record {
      map = refl;
      same = record { map = refl; passes = refl };
      batch = subst (λ (l : List ℕ). BatchSoFar wide c.args.self.now.time c.args.batch.now.stripe bytes l c.args.pass.now c.args.pass.now) (sym c.as_slice-rest.ensures.value)
          (batch_none wide c.args.self.now.time c.args.batch.now.stripe bytes c.args.pass.now);
    }

-- one more
pub loop-preserved : goal.loop-preserved
loop-preserved g c =
    let before = c.loop.invariant in
    let wide = c.args.self.now.had == stripes_of c.args.self.now.map.now in
    let stripe = c.args.batch.now.stripe in
    let change = change_of c.read.new.self in
    let placed : IsTrue wide → stripe ≡ stripe_of (stripes_of c.args.pass.now.map) change.0 = λ yes.
    subst (λ (id : TableId). stripe ≡ stripe_of (stripes_of id) change.0) (sym c.requires.map) (c.is_misplaced.ensures c.if-is_misplaced.false yes) in
    record {
      map = c.apply.ensures.same.map ∙ before.map;
      same = same_then c.args.pass.now c.loop.pass c.apply.new.pass before.same c.apply.ensures.same;
      batch = batch_more wide c.args.self.now.time stripe c.args.batch.now.bytes.items c.loop.rest.now c.in_ok-rest.rest.now change c.args.pass.now c.loop.pass c.apply.new.pass
          before.batch c.in_ok-rest.ensures.ok.0 c.in_ok-rest.ensures.ok.1 placed c.in_ok-apply.ensures.replays;
    }

-- no bytes are left
pub returns-then-is_empty-clause-replays : goal.returns-then-is_empty-clause-replays
returns-then-is_empty-clause-replays g c =
    batch_all (c.args.self.now.had == stripes_of c.args.self.now.map.now) c.args.self.now.time c.args.batch.now.stripe c.args.batch.now.bytes.items c.loop.rest.now c.args.pass.now c.loop.pass
    c.loop.invariant.batch (none_left c.loop.rest.now (sym c.is_empty.ensures ∙ c.if-is_empty.true))
