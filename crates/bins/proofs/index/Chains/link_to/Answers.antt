use Rattle.std.proofs.Common.{◌+◌, ◌<◌, ◌≤◌, arith}
use Rattle.bins.proofs.ChainMoves.{reach_on, reach_end}
use Rattle.bins.proofs.index.Chains.link_to.Goals as goal

pub loop-link-preserved : goal.loop-link-preserved
loop-link-preserved c =
    let before = c.loop-link.invariant in
    let links = c.requires.linked.1 in
    let far : c.args.position + 1 < c.loop-link.at = omega (arith, c.loop-link-test.true, c.saturating_sub.ensures) in
    let on = reach_on c.requires.linked.0 _ _ _ _ _ links c.requires.bin _ _ before.leads (before.reached _ links) far in
    record {
      leads = c.next-at.ensures;
      is_link = on.1;
      reached = λ bins is. reach_on bins _ _ _ _ _ is c.requires.bin _ _ before.leads (before.reached bins is) far;
    }

pub returns-clause-leads : goal.returns-clause-leads
returns-clause-leads c =
    let near : c.loop-link.at ≤ c.args.position + 1 = omega (arith, c.loop-link-test.false, c.saturating_sub.ensures) in
    λ bins is. reach_end bins _ _ _ _ _ is c.requires.bin _ _ c.loop-link.invariant.leads (c.loop-link.invariant.reached bins is) near
