use Rattle.std.proofs.Common.{◌≡◌, arith, ◌∙◌, get_or}
use Rattle.std.proofs.lemmas.List.Elements.{All-set}
use Rattle.bin_stripes.specs.declared.pass.Pass.{Pass}
use Rattle.crews.specs.Steps.{IsToldBy}
use Rattle.crews.proofs.TeamLemmas.{told_one_more, told_by}
use Rattle.crews.proofs.team.tell_each.Goals as goal

pub loop-member-preserved : goal.loop-member-preserved
loop-member-preserved c =
    let i = c.loop-member.member-index in
    let old = get_or c.loop-member.member-items i c.member-item.result in
    let old_map : old.map ≡ c.args.map.now = c.loop-member.invariant.map i c.member-item.result (omega arith) in
    let told = told_by c.args.map.now c.args.pass.now old c.tell.new.to old_map c.tell.ensures.same c.tell.ensures.told in
    let (done, rest) = told_one_more (IsToldBy c.args.pass.now) c.args.team.now.items c.loop-member.member-items i c.member-item.result c.tell.new.to (omega arith) c.loop-member.invariant.done c.loop-member.invariant.rest told in
    record {
      done = done;
      rest = rest;
      map = All-set (λ (p : Pass). p.map ≡ c.args.map.now) c.loop-member.member-items i c.tell.new.to (c.tell.ensures.same.map ∙ old_map) c.loop-member.invariant.map;
    }
