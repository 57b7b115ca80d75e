use Rattle.std.proofs.Common.{◌≡◌, Some, map}
use Rattle.bulk_walks.specs.declared.part.Part.{Part}
use Rattle.bulk_walks.proofs.answering.answers_of.Given as goal

-- the answers of the parts so far
abbrev pub invariant-loop-part : goal.invariant-loop-part
invariant-loop-part l = map Some l.all.items ≡ map (λ (part : Part). part.answers) l.yielded
