use Rattle.std.proofs.Common.{◌≡◌, Some, ◌∙◌}
use Rattle.std.proofs.lemmas.List.Elements.{All-pop}
use Rattle.stripe_rule.specs.Gains.{mine_of}
use Rattle.bin_stripes.specs.Passes.{PassState}
use Rattle.crews.proofs.WholeLemmas.{last_of}
use Rattle.crews.proofs.whole.join_team.Goals as goal

pub join_rest-requires-clause-last : goal.join_rest-requires-clause-last
join_rest-requires-clause-last c =
    (All-pop (λ (p : PassState). p.map ≡ c.args.map.now) c.args.team.items c.pop.new.self.items (Some c.in-Some.last) c.in-Some.ensures.items c.requires.team).1

pub join_rest-requires-clause-rest : goal.join_rest-requires-clause-rest
join_rest-requires-clause-rest c =
    (All-pop (λ (p : PassState). p.map ≡ c.args.map.now) c.args.team.items c.pop.new.self.items (Some c.in-Some.last) c.in-Some.ensures.items c.requires.team).0

pub returns-clause-numbers : goal.returns-clause-numbers
returns-clause-numbers c =
    c.join_rest.ensures.numbers ∙ last_of (λ (p : PassState). p.view.numbers) c.pop.new.self.items c.args.team.items c.in-Some.last c.in-Some.ensures.items

pub returns-clause-mine : goal.returns-clause-mine
returns-clause-mine c k lt =
    c.join_rest.ensures.mine k lt ∙ last_of (λ (p : PassState). mine_of p.view k) c.pop.new.self.items c.args.team.items c.in-Some.last c.in-Some.ensures.items
