use Rattle.std.proofs.Common.{◌≡◌}
use Rattle.bin_stripes.specs.Passes.{ServesSameMap, stripes_of}
use Rattle.key_walks.proofs.ChoiceLemmas.{Empty}
use Rattle.key_walks.proofs.choosing.random_key.Given as goal

-- the stripes so far are empty
abbrev pub invariant-loop-turn : goal.invariant-loop-turn
invariant-loop-turn g l = record {
  map : l.pass.map ≡ l.fn.pass.map;
  same : ServesSameMap l.fn.pass l.pass;
  done : Empty l.now (stripes_of l.fn.pass.map) l.number l.turn l.fn.pass l.pass;
}
