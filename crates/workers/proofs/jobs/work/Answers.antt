use Rattle.std.proofs.Common.{ap, ◌∙◌, sym, ◌++◌, take, drop, length, map, ◌≡◌, List}
use Rattle.workers.proofs.Working.{all_worked, kept}
use Rattle.workers.specs.declared.jobs.Job.{Job}
use Rattle.workers.proofs.jobs.work.Goals as goal

pub returns : goal.returns
returns g c =
    let js = c.given_out-jobs.result.items in
    let ks = c.run.new.jobs in
    let whole : take c.given_out-jobs.result.len (ks ++ drop (length ks) js) ≡ ks =
    kept c.given_out-jobs.result.len ks js (sym c.deref_mut.ensures.len ∙ sym c.run.ensures.0) in
    all_worked g.F.Fn c.args.f.now c.args.all.items c.deref_mut.result.now ks _ _ (c.deref_mut.ensures.value ∙ c.given_out-jobs.ensures) c.run.ensures
    (c.handed_back-left.ensures.0 ∙ ap (λ (all : List (Job g.row.X.Denot g.row.T.Denot)). map (λ job. job.own) all) whole)
    (c.handed_back-left.ensures.1 ∙ ap (λ (all : List (Job g.row.X.Denot g.row.T.Denot)). map (λ job. job.answer) all) whole)
