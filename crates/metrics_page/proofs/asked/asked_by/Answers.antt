use Rattle.std.proofs.Common.{inl, rules}
use Rattle.metrics_page.proofs.RequestLemmas.{asked_there}
use Rattle.metrics_page.proofs.asked.asked_by.Goals as goal

pub returns-in-Ok-Complete : goal.returns-in-Ok-Complete
returns-in-Ok-Complete c =
    let of = rw c.in-Ok-Complete.field-0-is at c.in-Ok-Complete.ensures.complete in
    let within = rw c.in-Ok-Complete.field-0-is at c.in-Ok-Complete.ensures.within in
    inl (asked_there c.args.bytes.now c.parse_request.new.headers c.in-Ok-Complete.head _ _ c.asked_of.result (search rules) of within c.of.ensures c.of-in-Ok-Complete.ensures c.asked_of.ensures)
