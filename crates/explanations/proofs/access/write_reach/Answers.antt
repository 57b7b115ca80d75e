use Rattle.std.proofs.Common.{append_assoc}
use Rattle.std.proofs.lemmas.Int.{to_z-of_z}
use Rattle.explanations.specs.Accesses.{reach_text}
use Rattle.explanations.proofs.access.write_reach.Goals as goal

pub returns : goal.returns
unfolding reach_text
returns c =
    let fits = c.ranges.offset in
    simp (append_assoc, to_z-of_z) at (rw (c.reach_of-reach.ensures.least, c.reach_of-reach.ensures.greatest, c.in_ok-push_str.ensures.bytes) at c.write_span.ensures)
