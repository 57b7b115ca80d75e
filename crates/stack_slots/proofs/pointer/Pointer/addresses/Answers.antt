use Rattle.std.proofs.Common.{◌≡◌, ap, ◌∙◌, arith, ℕ, ℤ, pos}
use Rattle.std.specs.Prelude.{◌≤ℤ◌}
use Rattle.std.proofs.lemmas.Int.{ints}
use Rattle.bpf_model.specs.Words.{signed}
use Rattle.bpf_model.specs.Memory.{first_address}
use Rattle.bpf_model.proofs.SignedLemmas.{signed_small}
use Rattle.stack_slots.specs.declared.pointer.Pointer.{Pointer}
use Rattle.stack_slots.proofs.PointerLemmas.{offset_near, first_small, sum_reads, points_within}
use Rattle.stack_slots.proofs.pointer.Pointer.addresses.Goals as goal

first_reads : (p : Pointer) (a : ℕ) (first : ℤ) → a ≡ first_address p.window → first ≡ signed a → first ≡ pos (first_address p.window)
first_reads p a first at is = is ∙ ap signed at ∙ signed_small (first_address p.window) (omega (arith, first_small p.window))

same_below : (z : ℤ) → z ≤ℤ z
same_below z = omega (arith, ints)

pub signed-requires : goal.signed-requires
signed-requires c =
    let p = c.args.self in
    let first = c.cast_signed-first.result in
    let small = first_small p.window in
    let is = first_reads p c.first_address.result first c.first_address.ensures c.cast_signed-first.ensures in
    let low = sum_reads first (first_address p.window) p.least is small (offset_near p p.least (same_below p.least) p.order) in
    let high = sum_reads first (first_address p.window) p.greatest is small (offset_near p p.greatest p.order (same_below p.greatest)) in
    omega (arith, ints, low, high, p.order)

pub returns-clause-bounds : goal.returns-clause-bounds
returns-clause-bounds c =
    let p = c.args.self in
    let first = c.cast_signed-first.result in
    let small = first_small p.window in
    let is = first_reads p c.first_address.result first c.first_address.ensures c.cast_signed-first.ensures in
    record {
      smin = c.signed.ensures.smin ∙ sum_reads first (first_address p.window) p.least is small (offset_near p p.least (same_below p.least) p.order);
      smax = c.signed.ensures.smax ∙ sum_reads first (first_address p.window) p.greatest is small (offset_near p p.greatest p.order (same_below p.greatest));
    }

pub returns-clause-holds : goal.returns-clause-holds
returns-clause-holds c =
    let p = c.args.self in
    let first = c.cast_signed-first.result in
    let small = first_small p.window in
    let is = first_reads p c.first_address.result first c.first_address.ensures c.cast_signed-first.ensures in
    let low = sum_reads first (first_address p.window) p.least is small (offset_near p p.least (same_below p.least) p.order) in
    let high = sum_reads first (first_address p.window) p.greatest is small (offset_near p p.greatest p.order (same_below p.greatest)) in
    λ w at. c.signed.ensures.holds w (points_within p w _ _ low high at)
