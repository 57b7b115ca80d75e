use Rattle.std.proofs.Common.{◌<◌, List, length, sym, subst}
use Rattle.bulk_walks.specs.Merges.{Remains, lefts_of}
use Rattle.bulk_walks.proofs.MergeLemmas.{IsLeast, lists_kept, takes_first}
use Rattle.bulk_walks.proofs.rests.take_least.Goals as goal

pub returns-in_err-position-clause-lists : goal.returns-in_err-position-clause-lists
returns-in_err-position-clause-lists c =
    let inside = subst (λ (rs : List Remains). c.least-list.result < length rs) c.deref.ensures.value c.least-list.ensures.position in
    lists_kept c.args.rests.now.items c.least-list.result inside c.index_mut-rest.result.now c.take_first.new.self (sym c.index_mut-rest.ensures.value) c.in_err-position.ensures.list

pub returns-clause-least : goal.returns-clause-least
returns-clause-least c =
    let inside = subst (λ (rs : List Remains). c.least-list.result < length rs) c.deref.ensures.value c.least-list.ensures.position in
    let least = subst (λ (rs : List Remains). IsLeast (lefts_of rs) c.least-list.result) c.deref.ensures.value c.least-list.ensures.least in
    takes_first c.args.rests.now.items c.least-list.result inside c.index_mut-rest.result.now c.take_first.new.self (sym c.index_mut-rest.ensures.value) c.in_ok-position.ensures.list c.in_ok-position.position c.in_ok-position.ensures.first least

pub returns-clause-lists : goal.returns-clause-lists
returns-clause-lists c =
    let inside = subst (λ (rs : List Remains). c.least-list.result < length rs) c.deref.ensures.value c.least-list.ensures.position in
    lists_kept c.args.rests.now.items c.least-list.result inside c.index_mut-rest.result.now c.take_first.new.self (sym c.index_mut-rest.ensures.value) c.in_ok-position.ensures.list
