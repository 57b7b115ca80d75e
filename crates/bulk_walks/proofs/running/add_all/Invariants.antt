use Rattle.std.proofs.Common.{◌≡◌, ◌≤◌, ◌++◌, List}
use Rattle.bins.specs.Table.{Entry}
use Rattle.atomic_methods.specs.declared.walk_reply.WalkKind.TheVariants.{ForEach}
use Rattle.atomic_methods.proofs.WalkLemmas.{Walked}
use Rattle.bulk_walks.proofs.running.add_all.Given as goal

-- the program was run on the entries before this one, and its answers were added
abbrev pub invariant-loop-position : goal.invariant-loop-position
invariant-loop-position l = record {
  more : List Entry;
  walked : Walked ForEach l.program l.arg l.entries more l.position l.unfit;
  added : l.items ≡ l.fn.items ++ more;
  bounded : l.unfit ≤ l.position;
}
