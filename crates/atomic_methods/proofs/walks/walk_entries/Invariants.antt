use Rattle.std.proofs.Common.{◌≤◌}
use Rattle.atomic_methods.proofs.WalkLemmas.{Walked}
use Rattle.atomic_methods.proofs.walks.walk_entries.Given as goal

-- the program was run on the entries before this one
abbrev pub invariant-loop-position : goal.invariant-loop-position
invariant-loop-position l = record {
  walked : Walked l.kind l.program l.arg l.entries l.items l.position l.unfit;
  bounded : l.unfit ≤ l.position;
}
