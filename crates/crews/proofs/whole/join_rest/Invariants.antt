-- what was joined so far, and the passes that are left, come to all of them
use Rattle.std.proofs.Common.{◌≡◌, ◌<◌, ◌++◌, ℕ, All, flat_map, length}
use Rattle.stripe_rule.specs.Gains.{mine_of}
use Rattle.bin_stripes.specs.Passes.{stripes_of}
use Rattle.crews.specs.Whole.{all_mine}
use Rattle.crews.proofs.whole.join_rest.Given as goal

abbrev pub invariant-loop-member : goal.invariant-loop-member
invariant-loop-member l = record {
  all : All (λ member. member.map ≡ l.map) l.passes.items;
  map : l.joined.map ≡ l.map;
  numbers : flat_map (λ member. member.view.numbers) l.passes.items ++ l.joined.view.numbers ≡ flat_map (λ member. member.view.numbers) l.fn.rest.items ++ l.fn.last.view.numbers;
  mine : (k : ℕ) → k < stripes_of l.map → all_mine k l.passes.items ++ mine_of l.joined.view k ≡ all_mine k l.fn.rest.items ++ mine_of l.fn.last.view k;
}

abbrev pub decreases-loop-member : goal.decreases-loop-member
decreases-loop-member l = length l.passes.items
