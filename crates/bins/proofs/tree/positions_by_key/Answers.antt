use Rattle.std.proofs.Common.{List, ℕ, Some, subst, arith}
use Rattle.bins.specs.Trees.{Sets}
use Rattle.bins.proofs.FinderLemmas.{locates_next}
use Rattle.bins.proofs.tree.positions_by_key.Goals as goal

-- the next key goes after the others
pub loop-position-preserved : goal.loop-position-preserved
loop-position-preserved c =
    let sets = subst (λ (key : List ℕ). Sets c.loop-position.positions c.add_position.new.positions key (Some c.loop-position.position)) c.key_at.ensures c.in_ok-add_position.ensures.ok in
    locates_next c.args.rows.now.keys c.loop-position.position _ _ c.requires (omega arith) c.loop-position.invariant sets
