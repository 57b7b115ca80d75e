use Rattle.std.proofs.Common.{List, Result, Ok, Err, OnOk, length, sum_by, ap, arith}
use Rattle.bulk_walks.specs.Merges.{Remains, left_of}
use Rattle.bulk_walks.proofs.HalfLemmas.{rooms, fronts_sorted, backs_sorted, places_both}
use Rattle.bulk_walks.proofs.halving.+halving.Goals as goal

-- the second half is no more than all
pub place_all-left_beside-middle-requires : goal.place_all-left_beside-middle-requires
place_all-left_beside-middle-requires g t c =
    let halves = c.in_ok-halves.halves in
    let all = rooms c.pivot.result.now c.args.rests.now halves.fronts.items halves.backs.items c.in_ok-halves.ensures in
    let backs = ap (λ (rests : List Remains). sum_by (λ rest. length (left_of rest)) rests) c.deref.ensures.value in
    omega (arith, all, backs, c.requires.room)

pub place_all-split_at_mut-front-requires : goal.place_all-split_at_mut-front-requires
place_all-split_at_mut-front-requires g t c = omega (arith, c.left_beside-middle.ensures)

pub place_all-place_both-requires-clause-front_room : goal.place_all-place_both-requires-clause-front_room
place_all-place_both-requires-clause-front_room g t c κs within =
    let halves = c.in_ok-halves.halves in
    let all = rooms c.pivot.result.now c.args.rests.now halves.fronts.items halves.backs.items c.in_ok-halves.ensures in
    let backs = ap (λ (rests : List Remains). sum_by (λ rest. length (left_of rest)) rests) c.deref.ensures.value in
    omega (arith, all, backs, c.left_beside-middle.ensures, c.requires.room, c.split_at_mut-front.ensures.front_len)

pub place_all-place_both-requires-clause-front_order : goal.place_all-place_both-requires-clause-front_order
place_all-place_both-requires-clause-front_order g t c κs within =
    let halves = c.in_ok-halves.halves in
    fronts_sorted c.pivot.result.now c.args.rests.now halves.fronts.items halves.backs.items c.in_ok-halves.ensures c.requires.order

pub place_all-place_both-requires-clause-back_order : goal.place_all-place_both-requires-clause-back_order
place_all-place_both-requires-clause-back_order g t c κs within =
    let halves = c.in_ok-halves.halves in
    backs_sorted c.pivot.result.now c.args.rests.now halves.fronts.items halves.backs.items c.in_ok-halves.ensures c.requires.order

pub place_all-place_both-requires-clause-back_room : goal.place_all-place_both-requires-clause-back_room
place_all-place_both-requires-clause-back_room g t c κs within =
    let halves = c.in_ok-halves.halves in
    let all = rooms c.pivot.result.now c.args.rests.now halves.fronts.items halves.backs.items c.in_ok-halves.ensures in
    let backs = ap (λ (rests : List Remains). sum_by (λ rest. length (left_of rest)) rests) c.deref.ensures.value in
    omega (arith, all, backs, c.left_beside-middle.ensures, c.requires.room, c.split_at_mut-front.ensures.back_len)

-- if both halves have their positions, all have
on_both : {A E P Q S : Type 0} → (P → Q → S) → (r : Result A E) → OnOk r P → OnOk r Q → OnOk r S
on_both f (Ok v) p q = f p q
on_both f (Err e) p q = p

pub place_all-returns : goal.place_all-returns
place_all-returns g t c =
    let halves = c.in_ok-halves.halves in
    on_both (places_both c.pivot.result.now c.args.rests.now halves.fronts.items halves.backs.items c.place_both.new.front c.place_both.new.back c.in_ok-halves.ensures) c.place_both.result c.place_both.ensures.front c.place_both.ensures.back
