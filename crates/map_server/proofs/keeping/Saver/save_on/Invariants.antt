use Rattle.std.proofs.Common.{◌≡◌}
use Rattle.map_keeper.specs.Keepers.{pass_of}
use Rattle.map_server.proofs.keeping.Saver.save_on.Given as goal

-- the keeper keeps the map that is shared
abbrev pub invariant-loop : goal.invariant-loop
invariant-loop g l = (pass_of l.kept.keeper).map ≡ l.self.shared.now.map.now
