use Rattle.std.proofs.Common.{◌≡◌, subst, rules}
use Rattle.sqlite.specs.Held.{Held, state}
use Rattle.sqlite.specs.State.{HasCleanDisk, Survives}
use Rattle.bin_stripes.specs.Passes.{stripes_of}
use Rattle.map_keeper.specs.Parts.{WouldStop, end_of}
use Rattle.map_keeper.specs.Written.{SavesPart, WouldCommit, may_part}
use Rattle.map_keeper.proofs.PartLemmas.{crash_committed, crash_dropped, crash_uncommitted}
use Rattle.map_keeper.proofs.WriteLemmas.{clean_before, on_err}
use Rattle.map_keeper.proofs.taker.Taker.save_part.Goals as goal

-- it was committed
pub returns-clause-wrote : goal.returns-clause-wrote
returns-clause-wrote g c clean =
    let v = c.args.self.now.pass.view in
    let w = c.write_part.new.self.pass.view in
    let stripes = stripes_of c.args.shared.now.map.now in
    let end = end_of stripes c.in_ok-reached.reached in
    let old = c.args.conn.now in
    let last = c.write_part.new.save.conn.now in
    let begun = c.transaction-save.ensures.begun in
    let new = c.commit.new.self.0 in
    let same : new ≡ c.conn-2-1.given.0 = search rules in
    let late : HasCleanDisk (state g.S.Store new) = search rules in
    let wrote = rw begun at (c.in_ok-reached.ensures.wrote (clean_before _ _ _ c.commit.ensures.survives late)) in
    subst (λ (h : Held g.row.S.Denot). SavesPart (state g.S.Store) c.args.had.now.takes_anew v w stripes c.args.from end old h) same
    (record { last = last; wrote = wrote; committed = (c.in_ok-commit.ensures.ok late).1 })

pub returns-clause-crash : goal.returns-clause-crash
returns-clause-crash g c =
    let v = c.args.self.now.pass.view in
    let w = c.write_part.new.self.pass.view in
    let stripes = stripes_of c.args.shared.now.map.now in
    let end = end_of stripes c.in_ok-reached.reached in
    let old = c.args.conn.now in
    let last = c.write_part.new.save.conn.now in
    let begun = c.transaction-save.ensures.begun in
    let new = c.commit.new.self.0 in
    let same : new ≡ c.conn-2-1.given.0 = search rules in
    subst (λ (h : Held g.row.S.Denot). Survives (state g.S.Store old) (state g.S.Store h) (WouldCommit (state g.S.Store) c.args.had.now.takes_anew v w stripes c.args.from end old)) same
    (crash_committed g.S.Store c.args.had.now.takes_anew v w stripes c.args.from end old last new (rw begun at c.write_part.ensures.kept) c.commit.ensures.survives
    (λ clean. rw begun at (c.in_ok-reached.ensures.wrote clean)))

-- the commit failed
pub returns-in_err-commit-clause-crash_err : goal.returns-in_err-commit-clause-crash_err
returns-in_err-commit-clause-crash_err g c =
    let v = c.args.self.now.pass.view in
    let w = c.write_part.new.self.pass.view in
    let stripes = stripes_of c.args.shared.now.map.now in
    let end = end_of stripes c.in_ok-reached.reached in
    let parts = may_part c.args.had.now.in_file.stripes stripes in
    let old = c.args.conn.now in
    let last = c.write_part.new.save.conn.now in
    let begun = c.transaction-save.ensures.begun in
    let new = c.commit.new.self.0 in
    let same : new ≡ c.conn-2-1.given.0 = search rules in
    on_err c.from_residual-in_err-commit.result _ (subst (λ (h : Held g.row.S.Denot). Survives (state g.S.Store old) (state g.S.Store h) (WouldStop (state g.S.Store) parts c.args.had.now.takes_anew v w stripes c.args.from old)) same
    (crash_uncommitted g.S.Store parts c.args.had.now.takes_anew v w stripes c.args.from c.in_ok-reached.reached old new c.in_ok-reached.ensures.next
    (crash_committed g.S.Store c.args.had.now.takes_anew v w stripes c.args.from end old last new (rw begun at c.write_part.ensures.kept) c.commit.ensures.survives
    (λ clean. rw begun at (c.in_ok-reached.ensures.wrote clean)))))

-- the steps failed
pub returns-in_err-reached-clause-crash_err : goal.returns-in_err-reached-clause-crash_err
returns-in_err-reached-clause-crash_err g c =
    let v = c.args.self.now.pass.view in
    let w = c.write_part.new.self.pass.view in
    let stripes = stripes_of c.args.shared.now.map.now in
    let parts = may_part c.args.had.now.in_file.stripes stripes in
    let old = c.args.conn.now in
    let last = c.write_part.new.save.conn.now in
    let begun = c.transaction-save.ensures.begun in
    let new = c.drop-save.new.self.0 in
    let same : new ≡ c.conn-1.given.0 = search rules in
    on_err c.from_residual.result _
    (subst (λ (h : Held g.row.S.Denot). Survives (state g.S.Store old) (state g.S.Store h) (WouldStop (state g.S.Store) parts c.args.had.now.takes_anew v w stripes c.args.from old)) same
    (crash_dropped g.S.Store parts c.args.had.now.takes_anew v w stripes c.args.from old last new (rw begun at c.write_part.ensures.kept) c.drop-save.ensures.survives))
