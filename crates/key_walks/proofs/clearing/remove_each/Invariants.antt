use Rattle.std.proofs.Common.{◌≡◌, take}
use Rattle.bin_stripes.specs.Passes.{ServesSameMap}
use Rattle.key_walks.specs.Turns.{Chain}
use Rattle.key_walks.specs.Walks.{Removes}
use Rattle.key_walks.proofs.clearing.remove_each.Given as goal

-- the first ones were removed
abbrev pub invariant-loop-key : goal.invariant-loop-key
invariant-loop-key g l = record {
  map : l.pass.map ≡ l.fn.pass.map;
  same : ServesSameMap l.fn.pass l.pass;
  done : Chain Removes l.fn.pass (take l.key-index l.keys) l.pass;
}
