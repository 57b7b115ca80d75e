use Rattle.std.proofs.Common.{◌≡◌, ℕ, ◌<◌, List, Option, Result, IfOk, All, length, arith, subst, slice_index_or}
use Rattle.atomic_table.specs.Seated.{TableId}
use Rattle.verifier.specs.Checked.{Checked}
use Rattle.atomic_methods.specs.declared.walk_reply.WalkKind.{WalkKind}
use Rattle.bin_stripes.specs.Passes.{PassState, stripes_of}
use Rattle.bpf_model.specs.declared.memory.NoMemory.{NoMemory}
use Rattle.bulk_walks.specs.Walks.{Walked, MayScan}
use Rattle.bulk_walks.specs.declared.part.Part.{Part}
use Rattle.bulk_walks.specs.Runs.{WorkerRuns, EachRuns}
use Rattle.bulk_walks.proofs.TeamLemmas.{head_of}
use Rattle.bulk_walks.proofs.FoundLemmas.{team_runs}
use Rattle.bulk_walks.proofs.finding.find.Goals as goal
use Rattle.bulk_walks.proofs.finding.find.Goals.{In-Ok}

-- the work of worker i
abbrev Does : WalkKind → Checked → Option (List ℕ) → TableId → ℕ → ℕ → PassState → Result Part NoMemory → PassState → Type 0
Does kind checked arg map workers i x r y = (y.map ≡ map) × IfOk r (λ part. WorkerRuns kind checked arg (stripes_of map) workers i x.view y.view part) × Walked (stripes_of map) workers i MayScan x.view y.view

each_of : (g : _) (c : In-Ok g) (i : ℕ) (d : PassState) (e : Result Part NoMemory) → i < length c.args.passes.items
    → Does c.args.walk.now.kind c.args.walk.now.program.now c.args.walk.now.arg.now c.args.map.now (length c.args.passes.items) i (slice_index_or c.args.passes.items i d) (slice_index_or c.in-Ok.answers.items i e) (slice_index_or c.work-passes.result.0.items i d)
each_of g c i d e low =
    let one = (rw c.in-Ok.is at c.work-passes.ensures).each i d e low in
    let len : c.len-workers.result ≡ length c.args.passes.items = omega (arith, c.len-workers.ensures, c.args.passes.ok.0) in
    let D : ℕ → PassState → PassState → Type 0 = λ m x y. Does c.args.walk.now.kind c.args.walk.now.program.now c.args.walk.now.arg.now c.args.map.now m i x (slice_index_or c.in-Ok.answers.items i e) y in
    subst (λ m. D m (slice_index_or c.args.passes.items i d) (slice_index_or c.work-passes.result.0.items i d)) len
    (subst (λ (y : PassState). D c.len-workers.result (slice_index_or c.args.passes.items i d) y) one.left (subst (λ (x : PassState). D c.len-workers.result x one.after_call.now) one.argument_is one.call))

did : (g : _) (c : In-Ok g) → EachRuns c.args.walk.now.kind c.args.walk.now.program.now c.args.walk.now.arg.now (stripes_of c.args.map.now) c.args.passes.items c.in-Ok.answers.items c.work-passes.result.0.items
did g c =
    let all = rw c.in-Ok.is at c.work-passes.ensures in
    record { answers = all.answers; left = all.left; done = λ i d e low. (each_of g c i d e low).1; part = λ i d low. (each_of g c i d (head_of c.in-Ok.answers.items (omega (arith, all.answers))) low).2 }

maps : (g : _) (c : In-Ok g) → All (λ pass. pass.map ≡ c.args.map.now) c.work-passes.result.0.items
maps g c = λ i d low.
    let all = did g c in
    (each_of g c i d (head_of c.in-Ok.answers.items (omega (arith, all.answers, all.left))) (omega (arith, all.left))).0

pub returns-clause-found : goal.returns-clause-found
returns-clause-found g c =
    let c' = (goal.at.returns-clause-found g c).In-Ok in
    let some : 0 < length c'.args.passes.items = omega (arith, c.requires.some, c.args.passes.ok.0) in
    team_runs c'.args.walk.now.kind c'.args.walk.now.program.now c'.args.walk.now.arg.now (stripes_of c'.args.map.now) c'.args.passes.items c'.work-passes.result.0.items c'.in-Ok.answers.items _ c.in-Ok-parts_of.ensures (head_of _ some) some (did g c')

pub returns-clause-map : goal.returns-clause-map
returns-clause-map g c = maps g (goal.at.returns-clause-map g c).In-Ok

pub returns-in_default-parts_of-clause-map : goal.returns-in_default-parts_of-clause-map
returns-in_default-parts_of-clause-map g c = maps g (goal.at.returns-in_default-parts_of-clause-map g c).In-Ok

pub returns-in_default-parts_of-clause-found : goal.returns-in_default-parts_of-clause-found
returns-in_default-parts_of-clause-found g c =
    let c' = (goal.at.returns-in_default-parts_of-clause-found g c).In-Ok in
    let all = did g c' in
    record { order = all.left; each = λ j d low. all.part j d low }
