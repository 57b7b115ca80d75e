use Rattle.std.proofs.Common.{◌≡◌, ℕ, ◌<◌, List, length, sum_by, arith, ap, ◌∙◌, subst, slice_index_or, Option}
use Rattle.atomic_table.specs.Seated.{TableId}
use Rattle.verifier.specs.Checked.{Checked}
use Rattle.bins.specs.declared.counts.Counts.{Counts}
use Rattle.bin_stripes.specs.Passes.{PassState, stripes_of}
use Rattle.bulk_walks.specs.Turns.{ReplacesTurns, EachReplaces}
use Rattle.bulk_walks.proofs.TeamLemmas.{at_most_64, head_of}
use Rattle.bulk_walks.proofs.ReplaceLemmas.{none_counted, scanned_fit, given_fit, unfit_fit, replaces_all}
use Rattle.bulk_walks.proofs.replace.replace_all.Goals as goal
use Rattle.bulk_walks.proofs.replace.replace_all.Goals.{After-deref}

-- the work of worker i
abbrev Does : TableId → Checked → Option (List ℕ) → ℕ → ℕ → PassState → Counts → PassState → Type 0
Does map checked arg workers i x r y = (y.map ≡ map) × ReplacesTurns (stripes_of map) checked arg (stripes_of map) workers i x.view y.view r

each_of : (g : _) (c : After-deref g) (i : ℕ) (d : PassState) (e : Counts) → i < length c.args.team.passes.items
    → Does c.args.map.now c.args.program.now c.args.arg.now (length c.args.team.passes.items) i (slice_index_or c.args.team.passes.items i d) (slice_index_or c.in-Ok.answers.items i e) (slice_index_or c.work-passes.result.0.items i d)
each_of g c i d e low =
    let one = (rw c.in-Ok.is at c.work-passes.ensures).each i d e low in
    let len : c.len-workers.result ≡ length c.args.team.passes.items = omega (arith, c.len-workers.ensures, c.args.team.passes.ok.0) in
    let D : ℕ → PassState → PassState → Type 0 = λ m x y. Does c.args.map.now c.args.program.now c.args.arg.now m i x (slice_index_or c.in-Ok.answers.items i e) y in
    subst (λ m. D m (slice_index_or c.args.team.passes.items i d) (slice_index_or c.work-passes.result.0.items i d)) len
    (subst (λ (y : PassState). D c.len-workers.result (slice_index_or c.args.team.passes.items i d) y) one.left (subst (λ (x : PassState). D c.len-workers.result x one.after_call.now) one.argument_is one.call))

did : (g : _) (c : After-deref g) → EachReplaces (stripes_of c.args.map.now) c.args.program.now c.args.arg.now c.args.team.passes.items c.in-Ok.answers.items c.work-passes.result.0.items
did g c =
    let all = rw c.in-Ok.is at c.work-passes.ensures in
    record { answers = all.answers; left = all.left; each = λ i d e low. (each_of g c i d e low).1 }

some : (g : _) (c : After-deref g) → 0 < length c.args.team.passes.items
some g c = omega (arith, c.args.team.some, c.args.team.passes.ok.0)

pub sum_of-counts-requires : goal.sum_of-counts-requires
sum_of-counts-requires g c =
    let before = c.args.team.passes.items in
    let rs = c.in-Ok.answers.items in
    let after = c.work-passes.result.0.items in
    let most = at_most_64 _ c.stripes-stripes.ensures.count in
    let d = head_of _ (some g c) in
    record {
      scanned = rw c.deref.ensures.value (scanned_fit _ _ _ before rs after d (some g c) (did g c) most);
      given = rw c.deref.ensures.value (given_fit _ _ _ before rs after d (some g c) (did g c) most);
      unfit = rw c.deref.ensures.value (unfit_fit _ _ _ before rs after d (some g c) (did g c) most);
    }

pub returns-clause-map : goal.returns-clause-map
returns-clause-map g c = λ i d low.
    let c' = (goal.at.returns-clause-map g c).After-deref in
    (each_of g c' i d none_counted (omega (arith, (did g c').left))).0

pub returns-clause-walked : goal.returns-clause-walked
returns-clause-walked g c =
    let c' = (goal.at.returns-clause-walked g c).After-deref in
    let all = replaces_all (stripes_of c'.args.map.now) c'.args.program.now c'.args.arg.now c'.args.team.passes.items c'.in-Ok.answers.items c'.work-passes.result.0.items (head_of _ (some g c')) (some g c') (did g c') in
    let sums = c.sum_of-counts.ensures in
    let list = c'.deref.ensures.value in
    record {
      counts = all.counts;
      walked = all.walked;
      items = c.new-items.ensures;
      scanned = sums.scanned ∙ ap (λ (rs : List Counts). sum_by (λ c. c.scanned) rs) list ∙ all.scanned;
      given = sums.given ∙ ap (λ (rs : List Counts). sum_by (λ c. c.given) rs) list ∙ all.given;
      unfit = sums.unfit ∙ ap (λ (rs : List Counts). sum_by (λ c. c.unfit) rs) list ∙ all.unfit;
    }
