use Rattle.std.proofs.Common.{refl, arith, ◌∙◌}
use Rattle.redis_service.proofs.TextLemmas.{overwritten_is}
use Rattle.redis_service.proofs.texts.overwrite.Goals as goal

pub returns : goal.returns
returns c =
    overwritten_is c.args.text.now c.args.bytes.now _ c.new-whole.result.items c.add.new.text.items c.add-2.new.text.items c.add-3.new.text.items c.set_from.new.self c.args.offset c.min-front.result c.min-end.result 1024
    c.min-front.ensures c.min-end.ensures refl (omega arith) c.new-whole.ensures c.add.ensures c.add-2.ensures c.add-3.ensures (c.set_from.ensures ∙ c.as_slice.ensures.value ∙ c.add-4.ensures)
