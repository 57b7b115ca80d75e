use Rattle.std.proofs.Common.{rules, ◌≡◌}
use Rattle.std.proofs.lemmas.List.Elements.{All-pop}
use Rattle.bin_stripes.specs.declared.pass.Pass.{Pass}
use Rattle.walk_tests.proofs.walks.dealt.Goals as goal

pub returns-clause-team : goal.returns-clause-team
returns-clause-team c =
    let both = All-pop (λ (pass : Pass). pass.map ≡ c.args.map.now) _ _ _ c.pop.ensures.items c.requires in
    search (rules, both)
