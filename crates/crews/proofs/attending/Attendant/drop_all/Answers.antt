use Rattle.slab.specs.Slab.{slab_len}
use Rattle.crews.proofs.CountLemmas.{counts_on, one_more_empty, all_empty}
use Rattle.crews.proofs.attending.Attendant.drop_all.Goals as goal

pub loop-seat-preserved : goal.loop-seat-preserved
loop-seat-preserved g c =
    let here = c.loop-seat.invariant in
    let seats = c.loop-seat.self.seats in
    let after = c.drop_one.new.self.seats in
    record {
      attended = λ registry password old turns attended. c.drop_one.ensures.attended registry password old turns (here.attended registry password old turns attended);
      there = λ registry password old turns attended. counts_on (g.P.Clients.there registry) c.args.clients.now c.loop-seat.clients c.drop_one.new.clients (slab_len c.args.self.now.seats) (slab_len seats) (slab_len after) (here.there registry password old turns attended) (c.drop_one.ensures.there registry password old turns (here.attended registry password old turns attended));
      over = λ over. c.drop_one.ensures.over (here.over over);
      below = one_more_empty seats after c.loop-seat.seat c.drop_one.ensures.gone c.drop_one.ensures.others here.below;
      above = λ seat high. c.drop_one.ensures.others seat (here.above seat high);
    }

pub returns-clause-empty : goal.returns-clause-empty
returns-clause-empty g c =
    all_empty c.loop-seat.self.seats c.loop-seat.seat c.capacity-seat-end.result c.loop-seat-test.false c.loop-seat.invariant.below c.loop-seat.invariant.above
