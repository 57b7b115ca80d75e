use Rattle.std.proofs.Common.{◌≡◌, ◌≤◌, leb, ltb, ◌&&◌, count_by, take}
use Rattle.key_walks.proofs.pages.count_between.Given as goal

-- the first ones were counted
abbrev pub invariant-loop-place : goal.invariant-loop-place
invariant-loop-place l = record {
  counted : l.count ≡ count_by (λ place. leb l.from place && ltb place l.until) (take l.place-index l.places);
  bounded : l.count ≤ l.place-index;
}
