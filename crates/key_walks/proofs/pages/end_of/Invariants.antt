use Rattle.std.proofs.Common.{◌≡◌, ◌-◌, ◌<◌, ◌≤◌, leb, ltb, ◌&&◌, count_by}
use Rattle.key_walks.proofs.pages.end_of.Given as goal

-- too few lie before the lower place; enough before the upper one, unless it is the end
abbrev pub invariant-loop-low : goal.invariant-loop-low
invariant-loop-low l = record {
  after : l.from ≤ l.low;
  apart : l.low < l.high;
  inside : l.high ≤ l.end;
  few : count_by (λ place. leb l.from place && ltb place l.low) l.places < l.most;
  enough : count_by (λ place. leb l.from place && ltb place l.high) l.places < l.most → l.high ≡ l.end;
}

abbrev pub decreases-loop-low : goal.decreases-loop-low
decreases-loop-low l = l.high - l.low
