use Rattle.std.proofs.Common.{w64}
use Rattle.std.proofs.lemmas.Int.{to_z-of_z}
use Rattle.redis_service.proofs.TextLemmas.{range_is}
use Rattle.redis_service.proofs.texts.range.Goals as goal

pub returns : goal.returns
returns c =
    let s = to_z-of_z w64 c.args.start c.ranges.start in
    let e = to_z-of_z w64 c.args.end c.ranges.end in
    range_is c.args.start c.args.end c.args.text.now c.min-from.result c.min-until.result (cc (s, e, c.is_backward.ensures, c.if-is_backward.false))
    (cc (s, c.min-from.ensures, c.place.ensures)) (cc (e, c.min-until.ensures, c.place-last.ensures))
