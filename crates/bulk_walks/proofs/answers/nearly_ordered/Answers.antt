use Rattle.std.proofs.Common.{◌≡◌, ◌++◌, ◌∷◌, [], List, ℕ, length, map, sym, ap, subst, ◌∙◌, arith}
use Rattle.std.specs.List.{range_with_len}
use Rattle.std.specs.List.Sorted.{IsPermutation}
use Rattle.std.proofs.lemmas.List.{map_push, take_all}
use Rattle.std.proofs.lemmas.List.Sorted.{IsPermutation-map}
use Rattle.bins.proofs.OrderedEntries.{range_more}
use Rattle.bulk_walks.proofs.answers.nearly_ordered.Goals as goal

-- one more position, beside its key's front
pub loop-position-preserved : goal.loop-position-preserved
loop-position-preserved c =
    let before = c.loop-position.invariant in
    let position = λ (front : ℕ × ℕ). front.1 in
    let p = c.loop-position.position in
    record {
      pushed = ap (map position) c.push_reserved.ensures.items ∙ map_push position c.loop-position.fronts.items (c.front.result, p)
          ∙ ap (λ (xs : List ℕ). xs ++ p ∷ []) before.pushed ∙ sym (range_more 0 p p (omega arith));
      room = omega (arith, before.room, c.push_reserved.ensures.capacity);
      counted = omega (arith, before.counted, c.push_reserved.ensures.len);
    }

-- all positions, as the sort moved them
pub returns : goal.returns
returns c =
    let position = λ (front : ℕ × ℕ). front.1 in
    let end : c.loop-position.position ≡ length c.args.list.now = omega (arith, c.loop-position-test.false, c.loop-position.auto.position-end, c.len-many.ensures.value) in
    let start = c.loop-position.invariant.pushed ∙ ap (range_with_len 0) end in
    let all = c.loop-front.invariant
    ∙ ap (map position) (take_all c.loop-front.front-index c.deref-front-items.result.now (omega (arith, c.loop-front-test.false)) ∙ c.deref-front-items.ensures.value) in
    let moved = IsPermutation-map position c.loop-position.fronts.items c.sort_unstable_by_key.new.self.items c.sort_unstable_by_key.ensures.permutation in
    record { moved = subst (IsPermutation (range_with_len 0 (length c.args.list.now))) (sym all) (subst (λ (xs : List ℕ). IsPermutation xs (map position c.sort_unstable_by_key.new.self.items)) start moved) }
