use Rattle.std.proofs.Common.{rules, ◌≡◌, All, Global, Vec, sym, subst}
use Rattle.std.proofs.lemmas.List.Elements.{All-pop}
use Rattle.bin_stripes.specs.declared.pass.Pass.{Pass}
use Rattle.walk_tests.proofs.walks.changing.parted.Goals as goal

pub returns-clause-passes : goal.returns-clause-passes
returns-clause-passes c =
    let all = subst (λ (v : Vec Pass Global). All (λ pass. pass.map ≡ c.args.map.now) v.items) (sym c.into_passes-passes.ensures) c.requires in
    let one = All-pop (λ (pass : Pass). pass.map ≡ c.args.map.now) _ _ _ c.pop.ensures.items all in
    let two = All-pop (λ (pass : Pass). pass.map ≡ c.args.map.now) _ _ _ c.pop-2.ensures.items one.0 in
    two.0

pub returns-clause-team : goal.returns-clause-team
returns-clause-team c =
    let all = subst (λ (v : Vec Pass Global). All (λ pass. pass.map ≡ c.args.map.now) v.items) (sym c.into_passes-passes.ensures) c.requires in
    let one = All-pop (λ (pass : Pass). pass.map ≡ c.args.map.now) _ _ _ c.pop.ensures.items all in
    let two = All-pop (λ (pass : Pass). pass.map ≡ c.args.map.now) _ _ _ c.pop-2.ensures.items one.0 in
    search (rules, one, two)
