use Rattle.std.proofs.Common.{◌≡◌, ◌<◌, ◌+◌, ◌-◌, ◌++◌, ◌∷◌, [], ℕ, List, length, set, take, slice_index, sym, ap, subst, ◌∙◌, arith}
use Rattle.std.proofs.lemmas.List.{length-set, length-take-le}
use Rattle.bins.specs.Chains.{AreSpread, bin_of}
use Rattle.bins.proofs.ChainEdits.{links_taken, split_last}
use Rattle.bins.proofs.index.Chains.take_last.Goals as goal
use Rattle.bins.proofs.index.Chains.take_last.Goals.{After-remove_last}

-- the place of the last position
count : (c : After-remove_last) → c.len-position.result - 1 + 1 ≡ length c.args.self.now.records.hashes
count c = omega (arith, c.len-position.ensures.hashes, c.requires.some)

hashes_cut : (c : After-remove_last) → c.remove_last.new.self.hashes ≡ take (c.len-position.result - 1) c.args.self.now.records.hashes
hashes_cut c = c.remove_last.ensures.hashes ∙ ap (λ (n : ℕ). take (n - 1) c.args.self.now.records.hashes) (sym c.len-position.ensures.hashes)

nexts_cut : (c : After-remove_last) → c.remove_last.new.self.nexts ≡ take (c.len-position.result - 1) c.args.self.now.records.nexts
nexts_cut c = c.remove_last.ensures.nexts ∙ ap (λ (n : ℕ). take (n - 1) c.args.self.now.records.nexts) (sym c.len-position.ensures.nexts)

pub returns-clause-chained : goal.returns-clause-chained
returns-clause-chained c =
    let before = c.requires.chained in
    let many = count c in
    let bins : c.len.result ≡ length c.args.self.now.heads.items = c.len.ensures ∙ c.args.self.now.heads.ok.0 in
    let bin : c.bin_of-bin.result ≡ bin_of c.args.self.now.half (length c.args.self.now.heads.items) (slice_index c.args.self.now.records.hashes (c.len-position.result - 1)) =
    c.bin_of-bin.ensures.value ∙ ap (λ (n : ℕ). bin_of c.args.self.now.half n c.hash-hash.result) bins
    ∙ ap (bin_of c.args.self.now.half (length c.args.self.now.heads.items)) c.hash-hash.ensures in
    let range : c.bin_of-bin.result < length c.args.self.now.heads.items = subst (λ (n : ℕ). c.bin_of-bin.result < n) bins c.bin_of-bin.ensures.range in
    record {
      spread = subst (AreSpread c.args.self.now.half) (sym (length-set c.args.self.now.heads.items c.bin_of-bin.result c.copied.result)) before.spread;
      long = ap length (nexts_cut c) ∙ length-take-le (c.len-position.result - 1) c.args.self.now.records.nexts (omega (arith, many, before.long))
          ∙ sym (ap length (hashes_cut c) ∙ length-take-le (c.len-position.result - 1) c.args.self.now.records.hashes (omega (arith, many)));
      links = links_taken c.args.self.now.half c.bin_of-bin.result (c.len-position.result - 1) c.args.self.now.heads.items c.args.self.now.records.hashes c.args.self.now.records.nexts
          c.remove_last.new.self.hashes c.remove_last.new.self.nexts (set c.args.self.now.heads.items c.bin_of-bin.result c.copied.result)
          before.links before.long many bin range (hashes_cut c) (nexts_cut c) (ap (set c.args.self.now.heads.items c.bin_of-bin.result) (c.copied.ensures ∙ c.link.ensures.value));
    }

pub returns-clause-hashes : goal.returns-clause-hashes
returns-clause-hashes c =
    split_last c.args.self.now.records.hashes (c.len-position.result - 1) c.hash-hash.result (count c) c.hash-hash.ensures
    ∙ ap (λ (xs : List ℕ). xs ++ c.hash-hash.result ∷ []) (sym (hashes_cut c))
