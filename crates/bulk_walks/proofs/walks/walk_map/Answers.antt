use Rattle.std.proofs.Common.{arith}
use Rattle.bulk_walks.proofs.RunLemmas.{may_all}
use Rattle.bulk_walks.proofs.TeamLemmas.{at_most_64}
use Rattle.bulk_walks.proofs.StandLemmas.{kept_sorted, scanned_same, given_le, unfit_same}
use Rattle.bulk_walks.proofs.WholeLemmas.{once_given, all_counted, scanned_fit, given_fit, unfit_fit, walks_of}
use Rattle.bulk_walks.proofs.walks.walk_map.Goals as goal

pub merged-requires-clause-order : goal.merged-requires-clause-order
merged-requires-clause-order g c κs within =
    let runs = rw c.in-Ok.is at c.find-passes.ensures.found in
    let f = runs.finds in
    let n = at_most_64 _ c.stripes-stripes.ensures.count in
    let kind = c.args.walk.now.kind in
    let checked = c.args.walk.now.program.now in
    let arg = c.args.walk.now.arg.now in
    let all = c.in-Ok-answer_all.answers.items in
    let answered = c.in-Ok-answer_all.ensures runs.earlies runs.gathered in
    let replies = answered.replies in
    let are = answered.are_replies in
    let stand = answered.stand in
    kept_sorted kind replies all stand (once_given _ _ _ _ checked arg replies f are)

pub merged-requires-clause-scanned : goal.merged-requires-clause-scanned
merged-requires-clause-scanned g c κs within =
    let runs = rw c.in-Ok.is at c.find-passes.ensures.found in
    let f = runs.finds in
    let n = at_most_64 _ c.stripes-stripes.ensures.count in
    let kind = c.args.walk.now.kind in
    let checked = c.args.walk.now.program.now in
    let arg = c.args.walk.now.arg.now in
    let all = c.in-Ok-answer_all.answers.items in
    let answered = c.in-Ok-answer_all.ensures runs.earlies runs.gathered in
    let replies = answered.replies in
    let are = answered.are_replies in
    let stand = answered.stand in
    let a = scanned_same kind replies all stand in let b = scanned_fit _ _ _ _ checked arg replies f are n in omega (arith, a, b)

pub merged-requires-clause-given : goal.merged-requires-clause-given
merged-requires-clause-given g c κs within =
    let runs = rw c.in-Ok.is at c.find-passes.ensures.found in
    let f = runs.finds in
    let n = at_most_64 _ c.stripes-stripes.ensures.count in
    let kind = c.args.walk.now.kind in
    let checked = c.args.walk.now.program.now in
    let arg = c.args.walk.now.arg.now in
    let all = c.in-Ok-answer_all.answers.items in
    let answered = c.in-Ok-answer_all.ensures runs.earlies runs.gathered in
    let replies = answered.replies in
    let are = answered.are_replies in
    let stand = answered.stand in
    let a = given_le kind replies all (all_counted _ _ _ _ checked arg replies f are) stand in let b = given_fit _ _ _ _ checked arg replies f are n in omega (arith, a, b)

pub merged-requires-clause-unfit : goal.merged-requires-clause-unfit
merged-requires-clause-unfit g c κs within =
    let runs = rw c.in-Ok.is at c.find-passes.ensures.found in
    let f = runs.finds in
    let n = at_most_64 _ c.stripes-stripes.ensures.count in
    let kind = c.args.walk.now.kind in
    let checked = c.args.walk.now.program.now in
    let arg = c.args.walk.now.arg.now in
    let all = c.in-Ok-answer_all.answers.items in
    let answered = c.in-Ok-answer_all.ensures runs.earlies runs.gathered in
    let replies = answered.replies in
    let are = answered.are_replies in
    let stand = answered.stand in
    let a = unfit_same kind replies all stand in let b = unfit_fit _ _ _ _ checked arg replies f are n in omega (arith, a, b)

-- memory was refused to the program's runs
pub returns-in_default-answer_all-clause-walked : goal.returns-in_default-answer_all-clause-walked
returns-in_default-answer_all-clause-walked g c =
    let runs = rw c.in-Ok.is at c.find-passes.ensures.found in
    may_all _ runs.finds.scans _ _ runs.finds.walked

pub returns-clause-walked : goal.returns-clause-walked
returns-clause-walked g c =
    let runs = rw c.in-Ok.is at c.find-passes.ensures.found in
    let answered = c.in-Ok-answer_all.ensures runs.earlies runs.gathered in
    walks_of _ _ _ _ c.args.walk.now.program.now c.args.walk.now.arg.now answered.replies runs.finds answered.are_replies
    c.args.walk.now.kind c.in-Ok-answer_all.answers.items answered.stand c.merged.result c.merged.ensures
