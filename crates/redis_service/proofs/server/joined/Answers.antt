use Rattle.std.proofs.Common.{ℕ, List, [], arith, ◌∙◌, ap, ◌++◌, get_or, Bor}
use Rattle.redis_service.proofs.EachLemmas.{mapped_more}
use Rattle.redis_service.proofs.server.joined.Goals as goal

pub loop-part-preserved : goal.loop-part-preserved
loop-part-preserved c =
    let d : Bor (List ℕ) = record { ref_ptr = (0, 0); now = [] } in
    c.in-Ok.ensures.items ∙ ap (λ (t : List ℕ). t ++ (get_or c.args.parts.now c.loop-part.part-index d).now) c.loop-part.invariant
    ∙ mapped_more (λ (t : List ℕ). t) c.args.parts.now c.loop-part.part-index d (omega arith)
