use Rattle.bulk_walks.proofs.RunLemmas.{on_ok_both, runs_held}
use Rattle.bulk_walks.proofs.finds.Finds.take_in.Goals as goal

-- none waited, and the program ran on the entries where they lie
pub returns-then-may_run_held-clause-runs : goal.returns-then-may_run_held-clause-runs
returns-then-may_run_held-clause-runs c =
    let old = c.args.self.now in
    on_ok_both c.add.result c.add.ensures.gathered c.add.ensures.scanned
    (runs_held old.walk.now.kind old.walk.now.program.now old.walk.now.arg.now old.gathered c.add.new.self old.waiting c.args.entries.now (c.may_run_held.ensures.none c.if-may_run_held.true))
