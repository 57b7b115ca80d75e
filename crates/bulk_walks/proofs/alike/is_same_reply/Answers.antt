use Rattle.std.proofs.Common.{List, length, ap, subst}
use Rattle.bins.specs.Table.{Entry}
use Rattle.atomic_methods.specs.Replies.{IsReply, IsCount}
use Rattle.bulk_walks.specs.Walks.{sum_below}
use Rattle.bulk_walks.proofs.SameScans.{same_order, sum_below-same}
use Rattle.bulk_walks.proofs.alike.is_same_reply.Goals as goal

pub returns-clause-walks : goal.returns-clause-walks
returns-clause-walks c a =
    let entries = same_order a.n a.walk.scans a.other_walk.scans a.walk.entries a.other_walk.entries a.same a.walk.in_order a.other_walk.in_order in
    c.is_same.ensures.one a.kind a.checked a.arg a.other_walk.entries
    (subst (λ (es : List Entry). IsReply a.kind a.checked a.arg es c.args.one.now) entries a.walk.replies) a.other_walk.replies

pub returns-clause-counts : goal.returns-clause-counts
returns-clause-counts c a =
    let found = sum_below-same a.n (λ k. length (a.count.scans k)) (λ k. length (a.other_count.scans k)) (λ k low. ap (λ (es : List Entry). length es) (a.same k low)) in
    c.is_same.ensures.one_count (sum_below a.n (λ k. length (a.other_count.scans k)))
    (subst (λ m. IsCount m c.args.one.now) found a.count.counted) a.other_count.counted
