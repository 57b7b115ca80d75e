use Rattle.std.proofs.Common.{◌≡◌, ◌++◌, flat_map, Some, ◌∙◌}
use Rattle.std.proofs.lemmas.List.Elements.{All-pop}
use Rattle.stripe_rule.specs.Gains.{mine_of}
use Rattle.bin_stripes.specs.Passes.{PassState}
use Rattle.crews.specs.Whole.{all_mine}
use Rattle.crews.proofs.WholeLemmas.{one_less}
use Rattle.crews.proofs.whole.join_rest.Goals as goal

pub loop-member-preserved : goal.loop-member-preserved
loop-member-preserved c =
    let before = c.loop-member.passes.items in
    let after = c.pop.new.self.items in
    let member = c.in-Some.member in
    let of_map = All-pop (λ (p : PassState). p.map ≡ c.args.map.now) before after (Some member) c.in-Some.ensures.items c.loop-member.invariant.all in
    record {
      all = of_map.0;
      map = c.join-more.ensures.same.map ∙ of_map.1;
      numbers = one_less (λ (p : PassState). p.view.numbers) after before member c.loop-member.joined.view.numbers c.join-more.result.view.numbers
          (flat_map (λ p. p.view.numbers) c.args.rest.items ++ c.args.last.view.numbers) c.in-Some.ensures.items c.join-more.ensures.joined.numbers c.loop-member.invariant.numbers;
      mine = λ k lt. one_less (λ (p : PassState). mine_of p.view k) after before member (mine_of c.loop-member.joined.view k) (mine_of c.join-more.result.view k)
          (all_mine k c.args.rest.items ++ mine_of c.args.last.view k) c.in-Some.ensures.items (c.join-more.ensures.joined.mine k lt) (c.loop-member.invariant.mine k lt);
    }
