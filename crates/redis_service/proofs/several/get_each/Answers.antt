use Rattle.std.proofs.Common.{◌≡◌, ℕ, List, rules, arith, ◌++◌, ◌∷◌, [], length, flat_map, refl, sym, ap, subst, ◌∙◌}
use Rattle.std.proofs.lemmas.List.{append-nil}
use Rattle.atomic_methods.specs.Plans.{where_true}
use Rattle.resp.specs.Replies.{array_head}
use Rattle.redis_service.specs.Calls.{Finds, bulk}
use Rattle.redis_service.specs.Replied.{replied_bytes}
use Rattle.redis_service.specs.Sending.{Sends}
use Rattle.redis_service.proofs.EachLemmas.{key_at, each_at, told_more}
use Rattle.redis_service.proofs.SendLemmas.{takes_none}
use Rattle.redis_service.proofs.several.get_each.Goals as goal

pub loop-key-init : goal.loop-key-init
loop-key-init g c = record {
  map = c.requires.map;
  passes = search rules;
  numbers = search rules;
  can = c.send_after-sent.ensures.can;
  each = (
    [],
    refl,
    subst (λ (t : List ℕ). Sends c.send_after-sent.result (g.W.Sink.state c.args.sink.now) (g.W.Sink.state c.send_after-sent.new.sink) t)
        (sym (append-nil (array_head (length c.args.keys.now))))
        (c.send_after-sent.ensures.more (g.W.Sink.state c.args.sink.now) [] (takes_none (g.W.Sink.state c.args.sink.now))),
  );
}

pub get_one-was-requires-clause-key : goal.get_one-was-requires-clause-key
get_one-was-requires-clause-key g c = key_at c.args.keys.now c.loop-key.key-index _ (omega arith) c.requires.keys

pub loop-key-preserved : goal.loop-key-preserved
loop-key-preserved g c =
    let (founds, each, sends) = c.loop-key.invariant.each in
    let found = where_true c.get_one-was.result c.get_one-was.new.room.found in
    let head = array_head (length c.args.keys.now) in
    let before = g.W.Sink.state c.args.sink.now in
    let told : replied_bytes c.found_if.result c.as_slice.result.now ≡ bulk found =
    ap (λ (t : List ℕ). replied_bytes c.found_if.result t) c.as_slice.ensures.value ∙ c.found_if.ensures c.get_one-was.new.room.found in
    record {
      map = c.get_one-was.ensures.same;
      passes = search rules;
      numbers = search rules;
      can = c.send_after-sent-in-loop-key.ensures.can;
      each = (
        founds ++ found ∷ [],
        each_at (Finds c.args.at.now.time) c.args.pass.now c.loop-key.pass c.get_one-was.new.pass c.args.keys.now c.loop-key.key-index _ founds found (omega arith) each c.get_one-was.ensures.finds,
        subst (λ (t : List ℕ). Sends c.send_after-sent-in-loop-key.result before (g.W.Sink.state c.send_after-sent-in-loop-key.new.sink) t)
            (ap (λ (t : List ℕ). (head ++ flat_map bulk founds) ++ t) told ∙ told_more head founds found)
            (c.send_after-sent-in-loop-key.ensures.more before (head ++ flat_map bulk founds) sends),
      );
    }
