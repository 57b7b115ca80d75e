use Rattle.std.proofs.Common.{◌≡◌, ◌≤◌, ◌*◌, ◌^◌}
use Rattle.bin_stripes.specs.Passes.{ServesSameMap}
use Rattle.map_keeper.specs.Restores.{CountsBelow}
use Rattle.map_keeper.proofs.restoring.count_all.Given as goal

-- the stripes so far were counted
abbrev pub invariant-loop-stripe : goal.invariant-loop-stripe
invariant-loop-stripe g l = record {
  map : l.pass.map ≡ l.fn.pass.map;
  same : ServesSameMap l.fn.pass l.pass;
  counted : CountsBelow l.stripe l.fn.pass l.pass l.count;
  bound : l.count ≤ l.stripe * 2 ^ 57;
}
