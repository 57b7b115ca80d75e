use Rattle.std.proofs.Common.{◌≡◌, ◌-◌, List, ℕ, [], Some, IsSome, length, refl, sym, ap, subst, ◌∙◌, arith}
use Rattle.std.specs.List.{slice_get}
use Rattle.bins.specs.Trees.{Locates}
use Rattle.bins.proofs.TreeLemmas.{locates_left}
use Rattle.bins.proofs.FinderLemmas.{stands, swap_remove_default}
use Rattle.bins.proofs.tree.Tree.swap_remove.Goals as goal

-- the last key was moved, and then the key was removed
pub returns : goal.returns
returns c =
    let keys : List (List ℕ) = c.args.rows.now.keys in
    let key = c.key_at-key.result in
    let last = c.key_at-last.result in
    let locates = c.requires.locates in
    let at : slice_get keys c.args.position ≡ Some key = stands keys c.args.position [] c.requires.range ∙ ap Some (sym c.key_at-key.ensures) in
    let read : slice_get keys (c.len.result - 1) ≡ Some last = stands keys (c.len.result - 1) [] (omega (arith, c.len.ensures.value, c.requires.range)) ∙ ap Some (sym c.key_at-last.ensures) in
    let at_last : slice_get keys (length keys - 1) ≡ Some last = subst (λ (n : ℕ). slice_get keys (n - 1) ≡ Some last) c.len.ensures.value read in
    let moves = c.move_position.ensures (subst IsSome (sym (locates.has last (length keys - 1) at_last)) refl) in
    record {
      locates = subst (Locates c.remove.new.self) (swap_remove_default keys c.args.position last [] c.requires.range)
          (locates_left c.args.self.now.positions c.move_position.new.positions c.remove.new.self keys key last c.args.position locates at at_last moves c.remove.ensures.updates.0);
    }
