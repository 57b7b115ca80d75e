use Rattle.std.proofs.Common.{arith, ◌∙◌}
use Rattle.crews.proofs.TeamLemmas.{heard_one_more, told_by}
use Rattle.crews.proofs.team.hear_each.Goals as goal

pub loop-member-preserved : goal.loop-member-preserved
loop-member-preserved c =
    let told = told_by c.args.map.now c.member-item.result c.loop-member.pass c.tell.new.to c.loop-member.invariant.map c.tell.ensures.same c.tell.ensures.told in
    record {
      heard = heard_one_more c.args.pass.now c.loop-member.pass c.tell.new.to c.args.team.now c.loop-member.member-index c.member-item.result (omega arith) c.member-item.is c.loop-member.invariant.heard told;
      map = c.tell.ensures.same.map ∙ c.loop-member.invariant.map;
    }
