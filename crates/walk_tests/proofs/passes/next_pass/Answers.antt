use Rattle.std.proofs.Common.{[], subst, All}
use Rattle.std.proofs.lemmas.List.Elements.{All-head}
use Rattle.stripe_rule.proofs.HistoryLemmas.{All-front, All-back}
use Rattle.walk_tests.proofs.PassLists.{IsOf}
use Rattle.walk_tests.proofs.passes.next_pass.Goals as goal

pub returns-in-Some-clause-pass : goal.returns-in-Some-clause-pass
returns-in-Some-clause-pass c = let P = IsOf c.args.map.now in
    All-head P _ [] (All-back P c.pop.new.self.items _ (subst (λ xs. All P xs) c.in-Some.ensures.items c.requires.all))

pub returns-in-Some-clause-all : goal.returns-in-Some-clause-all
returns-in-Some-clause-all c = let P = IsOf c.args.map.now in
    All-front P c.pop.new.self.items _ (subst (λ xs. All P xs) c.in-Some.ensures.items c.requires.all)

pub returns-in-None-clause-all : goal.returns-in-None-clause-all
returns-in-None-clause-all c = let P = IsOf c.args.map.now in
    All-front P c.pop.new.self.items _ (subst (λ xs. All P xs) c.in-None.ensures.items c.requires.all)
