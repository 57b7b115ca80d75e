use Rattle.std.proofs.lemmas.Int.{to_z-of_z}
use Rattle.explanations.proofs.access.write_unread.Goals as goal

pub returns : goal.returns
returns c =
    let fits = c.ranges.offset in
    rw c.in-Pointer.is (simp to_z-of_z at (rw (c.reach_of-reach.ensures.least, c.reach_of-reach.ensures.greatest) at c.write_load.ensures))
