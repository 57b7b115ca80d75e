use Rattle.std.proofs.Common.{take, ◌++◌, ◌∙◌}
use Rattle.std.proofs.KnownBytes.{Appends-trans}
use Rattle.devices.proofs.ListLemmas.{front_grows}
use Rattle.devices.proofs.sink.write_all.Goals as goal

pub loop-rest-preserved : goal.loop-rest-preserved
loop-rest-preserved g c =
    let (front, parts, taken) = c.loop-rest.invariant.taken in
    let rest = c.loop-rest.rest.now in
    let n = c.in_ok-n.n in
    record {
      count = c.in_ok-n.ensures.ok ∙ c.loop-rest.invariant.count;
      taken = (front ++ take n rest, front_grows _ front rest n parts, Appends-trans _ _ _ _ _ taken c.in_ok-n.ensures.bytes);
    }
