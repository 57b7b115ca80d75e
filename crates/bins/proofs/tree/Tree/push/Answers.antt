use Rattle.std.proofs.Common.{List, ℕ, Some, subst}
use Rattle.bins.specs.Trees.{Sets}
use Rattle.bins.proofs.TreeLemmas.{locates_more}
use Rattle.bins.proofs.FinderLemmas.{nowhere}
use Rattle.bins.proofs.tree.Tree.push.Goals as goal

-- the key goes after the others
pub returns-clause-ok : goal.returns-clause-ok
returns-clause-ok c =
    let sets = subst (λ (key : List ℕ). Sets c.args.self.now.positions c.add_position.new.positions key (Some c.len-position.result)) c.copied.ensures c.in_ok-add_position.ensures.ok in
    locates_more _ _ c.args.rows.now.keys c.args.key.now _ c.requires.locates sets (nowhere _ _ c.requires.new) c.len-position.ensures.value
