use Rattle.std.proofs.Common.{◌++◌, flat_map, ap, ◌∙◌}
use Rattle.stripe_rule.specs.Gains.{mine_of}
use Rattle.crews.specs.Whole.{all_mine}
use Rattle.crews.proofs.whole.join_crew.Goals as goal

pub returns-clause-numbers : goal.returns-clause-numbers
returns-clause-numbers c =
    c.join.ensures.joined.numbers
    ∙ ap (λ ns. c.args.crew.pass.view.numbers ++ ns) (c.join_team-team.ensures.numbers ∙ ap (λ v. flat_map (λ member. member.view.numbers) v.items) c.into_passes.ensures)

pub returns-clause-joins : goal.returns-clause-joins
returns-clause-joins c k lt = record {
  mine = c.join.ensures.joined.mine k lt
      ∙ ap (λ es. mine_of c.args.crew.pass.view k ++ es) (c.join_team-team.ensures.mine k lt ∙ ap (λ v. all_mine k v.items) c.into_passes.ensures);
  begins = c.join.ensures.joined.begins k lt;
}
