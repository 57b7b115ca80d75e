use Rattle.std.proofs.Common.{◌≡◌, All}
use Rattle.bin_stripes.specs.Passes.{PassState}
use Rattle.walk_tests.proofs.walks.changing.walk_on.Given as goal

-- the team's passes serve the map
abbrev pub invariant-loop : goal.invariant-loop
invariant-loop g l = All (λ (pass : PassState). pass.map ≡ l.map) l.team.passes.items
