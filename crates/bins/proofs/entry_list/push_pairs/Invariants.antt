use Rattle.std.proofs.Common.{◌≡◌, ◌+◌, ◌++◌, length, map, take}
use Rattle.bins.specs.Table.{Entry}
use Rattle.bins.proofs.entry_list.push_pairs.Given as goal

-- the pairs so far were added, and there is room for the rest
abbrev pub invariant-loop-pair : goal.invariant-loop-pair
invariant-loop-pair l = record {
  keys : l.rows.keys ≡ l.fn.rows.keys ++ map (λ (pair : Entry). pair.0) (take l.pair-index l.pairs);
  values : l.rows.values ≡ l.fn.rows.values ++ map (λ (pair : Entry). pair.1) (take l.pair-index l.pairs);
  room : l.rows.room ≡ l.fn.rows.room;
  counted : length l.rows.keys ≡ length l.fn.rows.keys + l.pair-index;
}
