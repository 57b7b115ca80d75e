-- What contracts see of a keeper.
use Rattle.bin_stripes.specs.Passes.{PassState}
use Rattle.map_keeper.specs.declared.keeper.Keeper.{Keeper}

-- the pass by which it restores and saves
abbrev pub pass_of : {S : Type 0} → Keeper S → PassState
pass_of keeper = keeper.taker.pass
