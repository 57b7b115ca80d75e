use Rattle.std.proofs.Common.{rules, arith, ℕ, List, [], Bor}
use Rattle.redis_service.proofs.SetLemmas.{pairs_at, sets_more, sets_all, sets_none}
use Rattle.redis_service.proofs.several.put_each.Goals as goal

pub put_one-requires-clause-key : goal.put_one-requires-clause-key
put_one-requires-clause-key g c = (pairs_at c.args.words.now c.loop-next.next _ (omega arith) c.loop-next.invariant.within).0

pub put_one-requires-clause-value : goal.put_one-requires-clause-value
put_one-requires-clause-value g c = (pairs_at c.args.words.now c.loop-next.next _ (omega arith) c.loop-next.invariant.within).1

pub returns-then-not-put_one-clause-answers : goal.returns-then-not-put_one-clause-answers
returns-then-not-put_one-clause-answers g c found =
    sets_none c.args.at.now.time c.args.pass.now c.loop-next.pass c.put_one.new.pass c.args.words.now c.loop-next.next _ (omega arith) c.loop-next.invariant.each (c.put_one.ensures.refuses (search rules))

pub loop-next-preserved : goal.loop-next-preserved
loop-next-preserved g c =
    let d : Bor (List ℕ) = record { ref_ptr = (0, 0); now = [] } in record {
      map = search rules;
      passes = search rules;
      numbers = search rules;
      place = omega arith;
      within = (pairs_at c.args.words.now c.loop-next.next d (omega arith) c.loop-next.invariant.within).2;
      each = sets_more c.args.at.now.time c.args.pass.now c.loop-next.pass c.put_one.new.pass c.args.words.now c.loop-next.next d (omega arith) c.loop-next.invariant.each (c.put_one.ensures.puts (search rules));
    }

pub returns-clause-answers : goal.returns-clause-answers
returns-clause-answers g c found = sets_all c.args.at.now.time c.args.pass.now c.loop-next.pass c.args.words.now c.loop-next.next (omega arith) c.loop-next.invariant.each
