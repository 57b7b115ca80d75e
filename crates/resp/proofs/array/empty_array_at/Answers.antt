-- arrays with a negative count
use Rattle.resp.proofs.ArrayLemmas.{negative_ignored, never_negative}
use Rattle.resp.proofs.array.empty_array_at.Goals as goal

pub returns-in-Ok-Some-clause-read : goal.returns-in-Ok-Some-clause-read
returns-in-Ok-Some-clause-read c =
    let e = rw c.in-Ok-Some.field-0-is at c.in-Ok-Some.ensures in
    λ words. negative_ignored c.args.digits.now c.in-Ok-Some.rest.now e.some

pub returns-in-Err-clause-err : goal.returns-in-Err-clause-err
returns-in-Err-clause-err c = never_negative c.args.digits.now c.in-Err.ensures.err
