use Rattle.std.proofs.Common.{◌≡◌, rules}
use Rattle.verifier.proofs.JoinLemmas.{joins_same, slots_same}
use Rattle.verifier.proofs.abstract_state.kept.join_frames.Goals as goal

pub returns-then-not-is-clause-joins : goal.returns-then-not-is-clause-joins
returns-then-not-is-clause-joins c =
    let e = c.join_kept.ensures in
    record { first = e.first; second = e.second; marks = e.marks; values = e.values }

pub returns-else-not-is : goal.returns-else-not-is
returns-else-not-is c =
    let f = c.args.frame.now in
    let same : c.args.kept.now ≡ f = c.is.ensures.same (search rules) in
    rw same (record { joins = joins_same f; slots = slots_same f })
