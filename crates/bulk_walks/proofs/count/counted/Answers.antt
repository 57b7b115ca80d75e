use Rattle.std.proofs.Common.{◌≡◌, ℕ, ◌<◌, List, length, sum_by, arith, ap, ◌∙◌, subst, slice_index_or}
use Rattle.atomic_table.specs.Seated.{TableId}
use Rattle.bin_stripes.specs.Passes.{PassState, stripes_of}
use Rattle.bulk_walks.specs.Walks.{sum_below}
use Rattle.bulk_walks.specs.Turns.{CountsTurns, EachCounts}
use Rattle.bulk_walks.proofs.TeamLemmas.{at_most_64, counts_fit, counts_all, head_of}
use Rattle.bulk_walks.proofs.count.counted.Goals as goal
use Rattle.bulk_walks.proofs.count.counted.Goals.{After-deref}

-- the work of worker i
abbrev Does : TableId → ℕ → ℕ → PassState → ℕ → PassState → Type 0
Does map workers i x count y = (y.map ≡ map) × CountsTurns (stripes_of map) workers i x.view y.view count

each_of : (g : _) (c : After-deref g) (i : ℕ) (d : PassState) (e : ℕ) → i < length c.args.team.passes.items
    → Does c.args.map.now (length c.args.team.passes.items) i (slice_index_or c.args.team.passes.items i d) (slice_index_or c.in-Ok.counts.items i e) (slice_index_or c.work-passes.result.0.items i d)
each_of g c i d e low =
    let one = (rw c.in-Ok.is at c.work-passes.ensures).each i d e low in
    let len : c.len-workers.result ≡ length c.args.team.passes.items = omega (arith, c.len-workers.ensures, c.args.team.passes.ok.0) in
    let D : ℕ → PassState → PassState → Type 0 = λ m x y. Does c.args.map.now m i x (slice_index_or c.in-Ok.counts.items i e) y in
    subst (λ m. D m (slice_index_or c.args.team.passes.items i d) (slice_index_or c.work-passes.result.0.items i d)) len
    (subst (λ (y : PassState). D c.len-workers.result (slice_index_or c.args.team.passes.items i d) y) one.left (subst (λ (x : PassState). D c.len-workers.result x one.after_call.now) one.argument_is one.call))

did : (g : _) (c : After-deref g) → EachCounts (stripes_of c.args.map.now) c.args.team.passes.items c.in-Ok.counts.items c.work-passes.result.0.items
did g c =
    let all = rw c.in-Ok.is at c.work-passes.ensures in
    record { answers = all.answers; left = all.left; each = λ i d e low. (each_of g c i d e low).1 }

some : (g : _) (c : After-deref g) → 0 < length c.args.team.passes.items
some g c = omega (arith, c.args.team.some, c.args.team.passes.ok.0)

pub total-requires : goal.total-requires
total-requires g c =
    rw c.deref.ensures.value (counts_fit (stripes_of c.args.map.now) _ c.in-Ok.counts.items _ (head_of _ (some g c)) (some g c) (did g c) (at_most_64 _ c.stripes-stripes.ensures.count))

pub returns-clause-map : goal.returns-clause-map
returns-clause-map g c = λ i d low.
    let c' = (goal.at.returns-clause-map g c).After-deref in
    (each_of g c' i d 0 (omega (arith, (did g c').left))).0

pub returns-clause-walked : goal.returns-clause-walked
returns-clause-walked g c =
    let c' = (goal.at.returns-clause-walked g c).After-deref in
    let n = stripes_of c'.args.map.now in
    let all = counts_all n c'.args.team.passes.items c'.in-Ok.counts.items c'.work-passes.result.0.items (head_of _ (some g c')) (some g c') (did g c') in
    let scanned : c.total.result ≡ sum_below n (λ k. length (all.0 k)) = c.total.ensures ∙ ap (λ (ns : List ℕ). sum_by (λ m. m) ns) c'.deref.ensures.value ∙ all.1.1 in
    let count = c.count_of.ensures in
    record {
      scans = all.0;
      walked = all.1.0;
      counted = record { items = count.items; scanned = count.scanned ∙ scanned; given = count.given; unfit = count.unfit };
    }
