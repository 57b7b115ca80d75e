use Rattle.std.proofs.Common.{rules, arith, ◌++◌, ◌∷◌, []}
use Rattle.atomic_methods.specs.Plans.{where_true}
use Rattle.redis_service.specs.Calls.{Finds}
use Rattle.redis_service.proofs.EachLemmas.{key_at, each_at, counted_more, counted_most}
use Rattle.redis_service.proofs.several.count_each.Goals as goal

pub get_one-was-requires-clause-key : goal.get_one-was-requires-clause-key
get_one-was-requires-clause-key g c = key_at c.args.keys.now c.loop-key.key-index _ (omega arith) c.requires.keys

pub loop-key-preserved : goal.loop-key-preserved
loop-key-preserved g c =
    let (founds, each, count) = c.loop-key.invariant.each in
    let found = where_true c.get_one-was.result c.get_one-was.new.room.found in
    let more = c.one_more-count.ensures c.get_one-was.new.room.found in
    record {
      map = c.get_one-was.ensures.same;
      passes = search rules;
      numbers = search rules;
      each = (
        founds ++ found ∷ [],
        each_at (Finds c.args.at.now.time) c.args.pass.now c.loop-key.pass c.get_one-was.new.pass c.args.keys.now c.loop-key.key-index _ founds found (omega arith) each c.get_one-was.ensures.finds,
        counted_more c.loop-key.count c.one_more-count.result founds found count more,
      );
      most = counted_most c.loop-key.count c.one_more-count.result c.loop-key.key-index found c.loop-key.invariant.most more;
    }
