use Rattle.std.proofs.Common.{List, sym, subst, ◌++◌}
use Rattle.std.specs.Fork.{AcceptsAt, ChangesAt}
use Rattle.workers.specs.Apart.{ChangesFrom}
use Rattle.workers.proofs.ApartLemmas.{accepts_rest, changes_both}
use Rattle.workers.proofs.apart.+from.Goals as goal

pub each_from-both-requires-clause-back : goal.each_from-both-requires-clause-back
each_from-both-requires-clause-back g t c κs within =
    let cut = c.split_at_mut-first in
    accepts_rest (AcceptsAt g.F.Fn c.args.f.now) c.args.base c.args.s.now cut.result.0.now cut.result.1.now cut.ensures.value cut.ensures.front_len c.requires.accepts

pub each_from-returns : goal.each_from-returns
each_from-returns g t c =
    let cut = c.split_at_mut-first in
    let R = ChangesAt g.F.Fn c.args.f.now in
    subst (λ (xs : List g.row.T.Denot). ChangesFrom R c.args.base xs (c.both.new.first ++ c.both.new.rest)) (sym cut.ensures.value)
    (changes_both R c.args.base cut.result.0.now cut.result.1.now c.both.new.first c.both.new.rest cut.ensures.front_len c.both.ensures.front c.both.ensures.back)
