-- numbers from 1 on
use Rattle.resp.proofs.ArrayLemmas.{no_zero, is_positive, positive_goes_on}
use Rattle.resp.proofs.array.after_positive.Goals as goal

pub returns-in-Some-clause-err : goal.returns-in-Some-clause-err
returns-in-Some-clause-err c = no_zero c.args.bytes.now c.in-Some.field-0.now c.in-Some.ensures.some

pub returns-in-Ok-Some-clause-some : goal.returns-in-Ok-Some-clause-some
returns-in-Ok-Some-clause-some c =
    let e = rw c.in-Ok-Some.field-0-is at c.in-Ok-Some.ensures in
    is_positive c.args.bytes.now c.in-Ok-Some.rest.now c.in-Ok-Some.field-0-0-0 c.in_default.ensures.none e.range e.some

pub returns-in-Ok-None-clause-none : goal.returns-in-Ok-None-clause-none
returns-in-Ok-None-clause-none c =
    let e = rw c.in-Ok-None.field-0-is at c.in-Ok-None.ensures in
    positive_goes_on c.args.bytes.now c.in_default.ensures.none e.none
