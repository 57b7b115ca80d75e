use Rattle.std.proofs.Common.{arith, ◌+◌, ◌^◌, refl, ap, ◌∙◌}
use Rattle.atomic_table.specs.Seated.{TableId}
use Rattle.bin_stripes.specs.Passes.{PassState, stripes_of}
use Rattle.bulk_walks.proofs.Sums.{turn_sum-le}
use Rattle.bulk_walks.proofs.TeamLemmas.{at_most_64}
use Rattle.bulk_walks.proofs.ReplaceLemmas.{at_most_scanned, replaces_none, replaces_more, replaces_past, replaces_at}
use Rattle.bulk_walks.proofs.replace.replace_turns.Goals as goal
use Rattle.bulk_walks.proofs.replace.replace_turns.Goals.{then-stripe-worker, else-stripe-worker}

pub loop-stripe-init : goal.loop-stripe-init
loop-stripe-init g c = record {
  map = refl;
  done = replaces_none (stripes_of c.args.worker.now.map.now) c.args.program.now c.args.arg.now c.args.worker.now.workers c.args.worker.now.number c.args.pass.now.view _ refl refl refl;
}

-- the sums fit
pub add-requires : goal.add-requires
add-requires g c =
    let inv = c.loop-stripe.invariant.done in
    let bounded = turn_sum-le c.args.worker.now.workers c.args.worker.now.number (λ _. 2 ^ 57) (2 ^ 57) c.loop-stripe.stripe (λ _. omega arith) in
    let low = c.loop-stripe-test.true in
    let value = c.stripes-stripes.ensures.value in
    let most = at_most_64 _ c.stripes-stripes.ensures.count in
    let bound = at_most_scanned c.replace_stripe-counts.ensures.each.are in
    let here = c.replace_stripe-counts.ensures.bounded in
    record {
      scanned = omega (arith, bounded, low, value, most, here, inv.bounded_scanned);
      given = omega (arith, bounded, low, value, most, here, bound.0, inv.bounded_given);
      unfit = omega (arith, bounded, low, value, most, here, bound.1, inv.bounded_unfit);
    }

pub loop-stripe-preserved : goal.loop-stripe-preserved
loop-stripe-preserved g c =
    let S = stripes_of c.args.worker.now.map.now in
    let checked = c.args.program.now in
    let arg = c.args.arg.now in
    let W = c.args.worker.now.workers in
    let j = c.args.worker.now.number in
    let v = c.args.pass.now.view in
    let p = c.loop-stripe.pass in
    let n = c.loop-stripe.stripe in
    let inv = c.loop-stripe.invariant in
    elim c.if-stripe-worker.branch [
      | then-stripe-worker w ↦
          let q = w.replace_stripe-counts.new.pass in
          let stripes = ap (λ (t : TableId). stripes_of t) (inv.map ∙ c.requires.map) in
          record {
            map = ap (λ (p : PassState). p.map) w.pass-is ∙ w.replace_stripe-counts.ensures.same.map ∙ inv.map;
            done = replaces_at S checked arg (n + 1) W j v q _ _ _
                (replaces_more S checked arg W j v n p q c.loop-stripe.total w.replace_stripe-counts.result w.add.new.total inv.done w.if-stripe-worker.true w.replace_stripe-counts.ensures.same.passes stripes w.replace_stripe-counts.ensures.each w.replace_stripe-counts.ensures.bounded w.add.ensures)
                w.pass-is w.total-is;
          }
      | else-stripe-worker w ↦ record {
        map = ap (λ (p : PassState). p.map) w.pass-is ∙ inv.map;
        done = replaces_at S checked arg (n + 1) W j v p _ _ _ (replaces_past S checked arg W j v n p.view c.loop-stripe.total inv.done w.if-stripe-worker.false) w.pass-is w.total-is;
      }
    ]
