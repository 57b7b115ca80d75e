use Rattle.key_walks.proofs.ClearingLemmas.{removes_always}
use Rattle.key_walks.proofs.clearing.remove.Goals as goal

pub returns-clause-removes : goal.returns-clause-removes
returns-clause-removes g c =
    removes_always c.args.pass.now c.call_into-answer.new.pass c.args.key.now c.call_into-answer.new.bytes c.call_into-answer.result c.call_into-answer.ensures.ok
    c.call_into-answer.ensures.err
