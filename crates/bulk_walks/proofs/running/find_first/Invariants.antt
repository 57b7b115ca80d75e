use Rattle.std.proofs.Common.{◌≤◌}
use Rattle.bulk_walks.proofs.SearchLemmas.{Searched}
use Rattle.bulk_walks.proofs.running.find_first.Given as goal

-- the first item of those at the entries before this one
abbrev pub invariant-loop-position : goal.invariant-loop-position
invariant-loop-position l = record {
  searched : Searched l.program l.arg l.entries l.first l.position l.unfit;
  bounded : l.unfit ≤ l.position;
}
