use Rattle.std.proofs.Common.{◌≡◌, ◌≤◌, ℕ, Ok, Err, subst, vec_len}
use Rattle.bin_stripes.specs.Opened.{IsPassCount}
use Rattle.map_commands.specs.Executions.{IsBadCount}
use Rattle.map_server.proofs.ServerRunLemmas.{enough_passes}
use Rattle.map_server.proofs.opening.open_server.Goals as goal

pub server_of-requires-clause-passes : goal.server_of-requires-clause-passes
server_of-requires-clause-passes c =
    subst (λ (n : ℕ). n ≤ vec_len c.in_ok-map.passes) c.passes.ensures (enough_passes _ _ _ _ _ c.in_ok-map.ensures.ok c.in_ok-map.passes.ok.0)

pub server_of-requires-clause-stripes : goal.server_of-requires-clause-stripes
server_of-requires-clause-stripes c = c.in_ok-map.ensures.ok.stripes_are

no_error : {T E : Type 0} (x : T) (e : E) → Ok x ≡ Err e → ⊥
no_error x e is = cc

pub returns-clause-ok : goal.returns-clause-ok
returns-clause-ok c =
    let good : IsBadCount c.args.asked.now.stripes → ⊥ = λ bad. no_error _ _ (c.in_ok-map.ensures.bad_stripes.1 bad) in
    (good, λ bad. good (λ count. no_error _ _ (c.in_ok-map.ensures.bad_passes.1 (count, λ passes. bad (subst IsPassCount c.passes.ensures passes)))))
