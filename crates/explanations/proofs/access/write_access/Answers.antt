use Rattle.std.proofs.Common.{append_assoc}
use Rattle.std.proofs.lemmas.Int.{to_z-of_z}
use Rattle.explanations.proofs.access.write_access.Goals as goal

pub returns : goal.returns
returns c =
    let fits = c.ranges.offset in
    rw c.in-Pointer.is (simp (append_assoc, to_z-of_z) at (rw (c.bytes.ensures.value, c.size.ensures, c.in_ok-write_reach.ensures) at c.write_extent.ensures))
