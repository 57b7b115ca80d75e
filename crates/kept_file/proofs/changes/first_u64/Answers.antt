use Rattle.std.proofs.Common.{arith}
use Rattle.kept_file.proofs.changes.first_u64.Goals as goal
use Rattle.kept_file.proofs.ChangeLemmas.{reads_64}

pub returns-in-Some-clause-ok : goal.returns-in-Some-clause-ok
returns-in-Some-clause-ok c =
    let split = c.in-Some.ensures.cases in
    reads_64 c.args.bytes.now c.in-Some.first.now c.in-Some.rest.now _ split.0 split.1 split.2 (λ i. omega (arith, c.type_inv.bytes i)) c.from_le_bytes.ensures
