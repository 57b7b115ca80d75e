use Rattle.std.proofs.Common.{◌≡◌, ◌<◌, ◌++◌, ◌∷◌, [], ℕ, List, length, slice_index, sym, ap, subst, ◌∙◌}
use Rattle.bins.specs.Chains.{AreSpread, Links, bins_of}
use Rattle.bins.proofs.ChainBins.{bin_within}
use Rattle.bins.proofs.ChainLemmas.{links_alike}
use Rattle.bins.proofs.ChainParts.{links_widened}
use Rattle.bins.proofs.index.Chains.add_bin.Goals as goal

-- the new bin has no position yet
pub part-requires-clause-linked : goal.part-requires-clause-linked
part-requires-clause-linked c =
    let before = c.requires.chained in
    let half : ℕ = c.args.self.now.half in
    let hashes : List ℕ = c.args.self.now.records.hashes in
    let heads : List ℕ = c.args.self.now.heads.items in
    let nexts : List ℕ = c.args.self.now.records.nexts in
    let bins : ℕ = c.len-bins.result in
    let count : bins ≡ length heads = c.len-bins.ensures ∙ c.args.self.now.heads.ok.0 in
    let spread : AreSpread half bins = subst (AreSpread half) (sym count) before.spread in
    let links : Links (bins_of half bins hashes) (length nexts) heads nexts =
    subst (λ (n : ℕ). Links (bins_of half n hashes) (length nexts) heads nexts) (sym count)
    (subst (λ (n : ℕ). Links (bins_of half (length heads) hashes) n heads nexts) (sym before.long) before.links) in
    links_alike (bins_of half bins hashes) (bins_of c.half_for-self.result bins hashes) (length nexts) c.push_reserved.new.self.items nexts
    (λ j high. c.half_for-self.ensures.same (slice_index hashes j))
    (links_widened (bins_of half bins hashes) (length nexts) heads nexts c.push_reserved.new.self.items links
    (λ j. subst (λ (n : ℕ). bins_of half bins hashes j < n) count (bin_within half bins (slice_index hashes j) spread)) (c.push_reserved.ensures.items ∙ ap (λ (n : ℕ). c.make_room.new.list.items ++ n ∷ []) c.none.ensures ∙ ap (λ (xs : List ℕ). xs ++ 0 ∷ []) c.make_room.ensures.same))
