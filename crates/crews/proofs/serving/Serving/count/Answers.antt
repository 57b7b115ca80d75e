use Rattle.std.proofs.Common.{ap, sym, is_some}
use Rattle.bulk_walks.specs.Walks.{CountsAll, AllWalked, MayScan}
use Rattle.crews.specs.Stations.{tokens_of}
use Rattle.crews.proofs.StepLemmas.{walked_by_team}
use Rattle.crews.proofs.serving.Serving.count.Goals as goal

pub returns : goal.returns
returns g c hello bytes =
    let s = c.self.inside in
    walked_by_team (λ n before after reply. CountsAll n before after reply) (λ n before after. AllWalked n MayScan before after)
    c.args.self.now s.pass s.team.items (tokens_of s.registry.now s.tokens.items) (is_some s.strict) s.map.now c.replace-team.result.items c.told-team.result.passes.items c.mapping_count_in_turn-team.result.0.passes.items c.heard.result.items
    c.heard.new.pass c.mapping_count_in_turn-team.result.1 _ (sym c.self.view_is) c.self.invariant.0 (ap (λ v. v.items) c.replace-team.ensures.value) (ap (λ v. v.items) c.heard.ensures.passes)
    c.told-team.ensures.told c.mapping_count_in_turn-team.ensures.walked c.heard.ensures.heard c.mapping_count_in_turn-team.ensures.map (c.answer_of.ensures bytes)
