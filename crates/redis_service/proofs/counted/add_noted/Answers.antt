use Rattle.redis_service.proofs.CountedLemmas.{one_added}
use Rattle.redis_service.proofs.counted.add_noted.Goals as goal

pub returns : goal.returns
returns c =
    one_added c.add_calls.result c.args.text.now.items c.add_calls.new.text.items (record { name = c.as_slice.result.now; calls = c.commands_of-calls.result })
    c.requires c.add_calls.ensures
