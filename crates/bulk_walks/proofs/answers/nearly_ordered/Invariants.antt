use Rattle.std.proofs.Common.{◌≡◌, ◌≤◌, ℕ, map, take}
use Rattle.std.specs.List.{range_with_len}
use Rattle.bulk_walks.proofs.answers.nearly_ordered.Given as goal

-- the positions so far, and there is room for the rest
abbrev pub invariant-loop-position : goal.invariant-loop-position
invariant-loop-position l = record {
  pushed : map (λ (front : ℕ × ℕ). front.1) l.fronts.items ≡ range_with_len 0 l.position;
  room : l.many ≤ l.fronts.cap;
  counted : l.fronts.len ≡ l.position;
}

-- the positions of the first ones, in their order
abbrev pub invariant-loop-front : goal.invariant-loop-front
invariant-loop-front l = l.order.items ≡ map (λ (front : ℕ × ℕ). front.1) (take l.front-index l.front-items)
