use Rattle.std.proofs.Common.{◌≡◌, List, length, map, take, refl, sym, ap, ◌∙◌, subst, arith}
use Rattle.std.proofs.lemmas.List.{length-map, length-take-le, map_push, take_all, take_more_set}
use Rattle.bins.specs.Merged.{entry_at}
use Rattle.bins.specs.Table.{Entry}
use Rattle.bulk_walks.specs.Merges.{TakesFirst, lefts_of, lists_of}
use Rattle.bulk_walks.proofs.HalfLemmas.{lefts_sorted, whole_many}
use Rattle.bulk_walks.proofs.MergeLemmas.{Left, left_all, left_less, left_none, still_sorted, left_enough}
use Rattle.bulk_walks.proofs.halving.place.Goals as goal

pub loop-place-init : goal.loop-place-init
loop-place-init c =
    let rests = c.args.rests.now.items in
    record {
      lists = refl;
      sorted = lefts_sorted rests c.requires.order;
      left = λ whole order has. left_all whole (lefts_of rests) order has;
    }

-- nothing is left: then the places end too
pub returns-in_default : goal.returns-in_default
returns-in_default c whole order has =
    let rests = c.args.rests.now.items in
    let at = entry_at (lists_of rests) in
    let places = c.loop-place.places in
    let few = take c.loop-place.place places in
    let many = length-map few at ∙ length-take-le c.loop-place.place places (omega (arith, c.loop-place-test.true)) in
    let all = left_none (map at few) (lefts_of c.loop-place.rests.items) whole (length whole) (c.loop-place.invariant.left whole order has) c.in_default.ensures.least
    (let n = whole_many rests whole has in omega (arith, many, n, c.requires.room, c.loop-place-test.true)) in
    let same = ap (λ (es : List Entry). length es) (all ∙ take_all (length whole) whole (omega arith)) in
    absurd (let n = whole_many rests whole has in omega (arith, many, n, same, c.requires.room, c.loop-place-test.true))

-- one more is taken
pub loop-place-preserved : goal.loop-place-preserved
loop-place-preserved c =
    let before = c.loop-place.invariant in
    let lists = lists_of c.args.rests.now.items in
    let places = c.loop-place.places in
    let place = c.loop-place.place in
    let position = c.in-Some.position in
    let item = entry_at lists position in
    let old = lefts_of c.loop-place.rests.items in
    let new = lefts_of c.take_least.new.rests.items in
    let takes = subst (λ (ls : List (List Entry)). TakesFirst old (entry_at ls position) new) before.lists c.in-Some.ensures.least in
    record {
      lists = c.in-Some.ensures.lists ∙ before.lists;
      sorted = still_sorted old new item takes before.sorted;
      left = λ whole order has.
          subst (λ (es : List Entry). Left es new whole) (sym (ap (map (entry_at lists)) (take_more_set places place position (omega (arith, c.loop-place-test.true))) ∙ map_push (entry_at lists) (take place places) position))
          (left_less (map (entry_at lists) (take place places)) old new item whole takes before.sorted (before.left whole order has));
    }

-- as many are taken as there are
pub returns : goal.returns
returns c whole order has =
    let rests = c.args.rests.now.items in
    let at = entry_at (lists_of rests) in
    let places = c.loop-place.places in
    let end : length places ≡ c.loop-place.place = omega (arith, c.loop-place-test.false, c.loop-place.auto.place-end) in
    let full : take c.loop-place.place places ≡ places = take_all c.loop-place.place places (omega (arith, end)) in
    let here = subst (λ (ps : List _). Left (map at ps) (lefts_of c.loop-place.rests.items) whole) full (c.loop-place.invariant.left whole order has) in
    left_enough (map at places) (lefts_of c.loop-place.rests.items) whole (length whole) here
    (let n = whole_many rests whole has in omega (arith, length-map places at, n, c.requires.room))
    ∙ take_all (length whole) whole (omega arith)
