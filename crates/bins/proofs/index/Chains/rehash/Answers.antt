use Rattle.std.proofs.Common.{◌≡◌, ◌<◌, ◌-◌, ℕ, List, length, set, sym, ap, subst, ◌∙◌, arith}
use Rattle.std.proofs.lemmas.List.{length-set, get_or-set_same, get_or-set_other}
use Rattle.bins.specs.Chains.{AreSpread, Links, bin_of, bins_of}
use Rattle.bins.proofs.ChainEdits.{links_told}
use Rattle.bins.proofs.index.Chains.rehash.Goals as goal

-- the position is in the bin of its new hash, and the others are where they were
pub returns-clause-chained : goal.returns-clause-chained
returns-clause-chained c =
    let before = c.requires.chained in
    let half : ℕ = c.args.self.now.half in
    let heads : List ℕ = c.args.self.now.heads.items in
    let old : List ℕ = c.args.self.now.records.hashes in
    let new : List ℕ = set old (c.args.at - 1) c.args.hash in
    let low : c.args.at - 1 < length old = omega (arith, c.requires.some, c.requires.range) in
    let bins : c.len-bins.result ≡ length heads = c.len-bins.ensures ∙ c.args.self.now.heads.ok.0 in
    let from : bins_of half (length heads) old (c.args.at - 1) ≡ c.bin_of-from.result =
    ap (bin_of half (length heads)) (sym c.hash.ensures) ∙ ap (λ (n : ℕ). bin_of half n c.hash.result) (sym bins) ∙ sym c.bin_of-from.ensures.value in
    let into : bins_of half (length heads) new (c.args.at - 1) ≡ c.bin_of-into.result =
    ap (bin_of half (length heads)) (get_or-set_same old (c.args.at - 1) c.args.hash 0 low) ∙ ap (λ (n : ℕ). bin_of half n c.args.hash) (sym bins) ∙ sym c.bin_of-into.ensures.value in
    let linked = c.move_to.ensures.linked (bins_of half (length heads) old) (bins_of half (length heads) new)
    (subst (λ (n : ℕ). Links (bins_of half (length heads) old) n heads c.args.self.now.records.nexts) (sym before.long) before.links) from
    (record { here = into; others = λ j other. ap (bin_of half (length heads)) (get_or-set_other old (c.args.at - 1) j c.args.hash 0 other) }) in
    let hashes : c.set_hash.new.self.hashes ≡ new = c.set_hash.ensures.hashes ∙ ap (λ (xs : List ℕ). set xs (c.args.at - 1) c.args.hash) c.move_to.ensures.hashes in
    let long : length c.move_to.new.self.records.nexts ≡ length c.set_hash.new.self.hashes =
    c.move_to.ensures.nexts ∙ before.long ∙ sym (ap length hashes ∙ length-set old (c.args.at - 1) c.args.hash) in
    record {
      spread = subst (λ (n : ℕ). AreSpread n (length c.move_to.new.self.heads.items)) (sym c.move_to.ensures.half) (subst (AreSpread half) (sym c.move_to.ensures.bins) before.spread);
      long = ap length c.set_hash.ensures.nexts ∙ long;
      links = links_told half c.move_to.new.self.half (length heads) new c.set_hash.new.self.hashes c.move_to.new.self.heads.items c.move_to.new.self.records.nexts c.set_hash.new.self.nexts
          c.move_to.ensures.half c.move_to.ensures.bins hashes c.set_hash.ensures.nexts long linked;
    }
