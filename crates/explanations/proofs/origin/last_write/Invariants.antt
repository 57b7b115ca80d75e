-- the last of those so far that write it
use Rattle.std.proofs.Common.{◌≡◌, ◌<◌, length}
use Rattle.std.specs.Prelude.{IfSome}
use Rattle.explanations.specs.Origins.{last_write}
use Rattle.explanations.proofs.origin.last_write.Given as goal

abbrev pub invariant-loop-index : goal.invariant-loop-index
invariant-loop-index l = record {
  last : l.last ≡ last_write l.before l.states l.register l.index;
  inside : IfSome l.last (λ index. index < length l.before);
}
