use Rattle.std.proofs.Common.{◌+◌, ap, refl}
use Rattle.bulk_walks.proofs.GatherLemmas.{gathered_more}
use Rattle.bulk_walks.proofs.part.Gathered.add.Goals as goal

pub returns-clause-gathered : goal.returns-clause-gathered
returns-clause-gathered c found had =
    gathered_more c.args.walk.now.program.now c.args.walk.now.arg.now c.args.walk.now.kind found c.args.entries.now c.args.self.now _ c.in_ok-unfit.unfit had c.in_ok-unfit.ensures.adds
    (ap (λ n. c.args.self.now.scanned + n) c.len.ensures.value) refl
