use Rattle.std.proofs.Common.{◌≡◌, ◌==◌, OnOk, rules, sym, subst}
use Rattle.sqlite.specs.Held.{Held, state}
use Rattle.sqlite.specs.State.{HasCleanDisk, IsUnchanged, Survives}
use Rattle.bin_stripes.specs.Passes.{stripes_of}
use Rattle.map_keeper.proofs.RestoreLemmas.{replayed_by}
use Rattle.map_keeper.proofs.WriteLemmas.{kept_then, on_any}
use Rattle.map_keeper.proofs.restoring.Replay.apply_from.Goals as goal

pub returns-clause-replayed : goal.returns-clause-replayed
returns-clause-replayed g c clean =
    let first = c.in_ok-batches.batches.conn.now in
    let last = c.apply_all.new.batches.conn.now in
    let same : last ≡ c.conn-2-1.given.0 = search rules in
    let late : HasCleanDisk (state g.S.Store last) = subst (λ (h : Held g.row.S.Denot). HasCleanDisk (state g.S.Store h)) (sym same) clean in
    (replayed_by g.S.Store (c.args.self.now.had == stripes_of c.args.self.now.map.now) c.args.self.now.time c.args.conn.now first last c.args.pass.now c.apply_all.new.pass c.apply_all.result late
    c.apply_all.ensures.kept c.in_ok-batches.ensures.begun (c.apply_all.ensures.replayed late)).0

pub returns-clause-unchanged : goal.returns-clause-unchanged
returns-clause-unchanged g c clean =
    let first = c.in_ok-batches.batches.conn.now in
    let last = c.apply_all.new.batches.conn.now in
    let same : last ≡ c.conn-2-1.given.0 = search rules in
    let late : HasCleanDisk (state g.S.Store last) = subst (λ (h : Held g.row.S.Denot). HasCleanDisk (state g.S.Store h)) (sym same) clean in
    subst (λ (h : Held g.row.S.Denot). OnOk c.apply_all.result (IsUnchanged (state g.S.Store c.args.conn.now) (state g.S.Store h))) same
    (replayed_by g.S.Store (c.args.self.now.had == stripes_of c.args.self.now.map.now) c.args.self.now.time c.args.conn.now first last c.args.pass.now c.apply_all.new.pass c.apply_all.result late
    c.apply_all.ensures.kept c.in_ok-batches.ensures.begun (c.apply_all.ensures.replayed late)).1

pub returns-clause-kept : goal.returns-clause-kept
returns-clause-kept g c =
    let first = c.in_ok-batches.batches.conn.now in
    let last = c.apply_all.new.batches.conn.now in
    let same : last ≡ c.conn-2-1.given.0 = search rules in
    let kept : Survives (state g.S.Store c.args.conn.now) (state g.S.Store last) (λ _. ⊥) =
    kept_then (state g.S.Store c.args.conn.now) (state g.S.Store first) (state g.S.Store last) c.in_ok-batches.ensures.kept c.apply_all.ensures.kept in
    subst (λ (h : Held g.row.S.Denot). OnOk c.apply_all.result (Survives (state g.S.Store c.args.conn.now) (state g.S.Store h) (λ _. ⊥))) same
    (on_any c.apply_all.result (Survives (state g.S.Store c.args.conn.now) (state g.S.Store last) (λ _. ⊥)) kept)
